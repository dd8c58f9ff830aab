-- The answer by the first line alone, in each of its three cases. Assumes nothing.
use Prim.Native.Nat.{ℕ}
use mathlib.Core.Path.{◌≡◌, sym, ◌∙◌, ap}
use mathlib.Core.Bool.{Bool, cond}
use mathlib.Core.List.{List}
use mathlib.Core.Option.{Option, none, some}
use borrow.Author.Tests.{eq-eqb, ne_eqb}
use lib.IntN.{pos}
use lib.ListN.{length}
use Rattle.text.specs.Scan.{Taken}
use Rattle.rules.specs.Request.{Request}
use Rattle.rules.specs.Reader.{take_request}
use Rattle.rules.specs.declared.Reply.{Reply}
use Rattle.rules.specs.declared.Reply.TheVariants.{Replayed, BadLine, LineRefused}
use Rattle.replaying.specs.Unsound.{first_line, refused_at_once}

module _ (text : List ℕ) where
  abbrev decided : Bool → Option (Taken Request) → Reply
  decided nothing o = cond nothing (Replayed (pos 0)) (first_line o)

  pub no_line : length text ≡ 0 → Replayed (pos 0) ≡ refused_at_once text
  unfolding refused_at_once
  no_line e = sym (ap (λ (b : Bool). decided b (take_request text)) (eq-eqb (length text) 0 e))

  module _ (some_byte : length text ≡ 0 → ⊥) where
    by-line : (o : Option (Taken Request)) → o ≡ take_request text → first_line o ≡ refused_at_once text
    unfolding refused_at_once
    by-line o e = ap first_line e ∙ sym (ap (λ (b : Bool). decided b (take_request text)) (ne_eqb (length text) 0 some_byte))

    pub first-bad : none ≡ take_request text → BadLine (pos 1) ≡ refused_at_once text
    first-bad e = by-line none e

    pub first-named : (x : Taken Request) → some x ≡ take_request text → LineRefused (pos 1) (pos 1) (pos 0) ≡ refused_at_once text
    first-named x e = by-line (some x) e
