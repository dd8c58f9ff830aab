-- A place in a text: the byte there is the first of the text from there on, and a byte above 0 lies before the end. Assumes nothing.
use Prim.Native.Nat.{ℕ, suc, ◌+◌, ◌<◌}
use native.Mathlib.Nat.{add-zero}
use native.Mathlib.Omega.{arith}
use mathlib.Core.Path.{◌≡◌, sym, ◌∙◌, ap}
use mathlib.Core.Logic.{⊎_elim}
use mathlib.Core.List.{List, ◌∷◌}
use borrow.Author.Tests.{ltb-true, ltb-false}
use lib.Dec.{ltb}
use lib.ListN.{length, get_or, drop, get_or-eq_default}
use lib.Seq.{get_or-drop, drop-cons}
use Rattle.text.specs.Scan.{first}
use Rattle.integers.proofs.Parts.{split}

module _ (text : List ℕ) (at : ℕ) {b : ℕ} (read : b ≡ get_or text at 0) where
  pub first-there : first (drop at text) ≡ b
  first-there = get_or-drop at text 0 0 ∙ ap (λ (place : ℕ). get_or text place 0) (add-zero at) ∙ sym read

  pub before-end : 0 < b → at < length text
  before-end some =
      ⊎_elim
      (λ before. ltb-true at (length text) before)
      (λ past. let end : get_or text at 0 ≡ 0 = get_or-eq_default text 0 (ltb-false at (length text) past) in absurd (omega arith))
      (split (ltb at (length text)))

  -- The text from there on, where this byte stands.
  pub begins : {letter : ℕ} → b ≡ letter → 0 < letter → drop at text ≡ letter ∷ drop (at + 1) text
  begins {letter} e some =
      let within : at < length text = before-end (omega arith) in
      let one_more : suc at ≡ at + 1 = omega arith in
      drop-cons text at 0 within ∙ ap (λ (first : ℕ). first ∷ drop (suc at) text) (sym read ∙ e) ∙ ap (λ (place : ℕ). letter ∷ drop place text) one_more
