-- What a test says where one of two answers is something. Assumes nothing.
use mathlib.Core.Path.{◌≡◌, refl}
use mathlib.Core.Bool.{Bool, true, false, cond}
use mathlib.Core.Logic.{◌⊎◌, inl, inr}
use mathlib.Core.Option.{Option, none, some, none-ne-some}

pub chosen : {A : Type 0} (b : Bool) (x y : Option A) (a : A) → cond b x y ≡ some a → ((b ≡ true) × (x ≡ some a)) ⊎ ((b ≡ false) × (y ≡ some a))
chosen true x y a h = inl (refl, h)
chosen false x y a h = inr (refl, h)

pub chosen-only : {A : Type 0} (b : Bool) (x : Option A) (a : A) → cond b x none ≡ some a → (b ≡ true) × (x ≡ some a)
chosen-only true x a h = (refl, h)
chosen-only false x a h = absurd (none-ne-some a h)
