-- A line written part by part: its heading, the fields of two lists, and the newline. Assumes nothing.
use Prim.Native.Nat.{ℕ, ◌+◌, ◌≤◌}
use mathlib.Core.Path.{◌≡◌}
use mathlib.Core.List.{List, [], ◌∷◌, ◌++◌, append_assoc}
use native.Mathlib.Omega.{arith}
use lib.IntN.{ℤ}
use lib.ListN.{length, length-append}
use Rattle.rules.specs.declared.Heading.{Heading}
use Rattle.rules.specs.Line.{heading_text, line_text}
use Rattle.text.specs.Fields.{tab, newline, fields_text}
use Rattle.text.proofs.WrittenLaws.{Wrote, wrote-in-turn}
use Rattle.writer.proofs.NumberTexts.{fields-append}

-- A give-up's three bytes.
pub give-up : (at next after end a b letter : ℕ) (text t u v : List ℕ) → at + 3 ≤ length text → a ≡ 71 → b ≡ letter → Wrote (a ∷ []) at text next t → Wrote (tab ∷ []) next t after u
    → Wrote (b ∷ []) after u end v
    → Wrote (71 ∷ tab ∷ letter ∷ []) at text end v
give-up at next after end a b letter text t u v room e f p q r =
    let two : Wrote (a ∷ tab ∷ []) at text after u = wrote-in-turn (a ∷ []) (tab ∷ []) at next after text t u (omega arith) p q in
    rw (← e, ← f) (wrote-in-turn (a ∷ tab ∷ []) (b ∷ []) at after end text u v room two r)

module _ (heading : Heading) (a b : List ℤ) where
  line-parts : line_text heading (a ++ b) ≡ ((heading_text heading ++ fields_text a) ++ fields_text b) ++ (newline ∷ [])
  unfolding line_text
  line-parts = rw (fields-append a b) (simp append_assoc)

  pub line-length : length (line_text heading (a ++ b)) ≡ length (heading_text heading) + length (fields_text a) + length (fields_text b) + 1
  line-length = rw line-parts (simp length-append)

  pub line-written : (at first second third end : ℕ) (text t u v w : List ℕ) → at + length (line_text heading (a ++ b)) ≤ length text → Wrote (heading_text heading) at text first t
      → Wrote (fields_text a) first t second u
      → Wrote (fields_text b) second u third v
      → Wrote (newline ∷ []) third v end w
      → Wrote (line_text heading (a ++ b)) at text end w
  line-written at first second third end text t u v w room p q r s =
      let h : List ℕ = heading_text heading in
      let ha : List ℕ = h ++ fields_text a in
      let hab : List ℕ = ha ++ fields_text b in
      let whole : at + length (hab ++ (newline ∷ [])) ≤ length text = rw line-parts at room in
      let fits-hab : at + length hab ≤ length text = omega (arith, length-append hab (newline ∷ [])) in
      let fits-ha : at + length ha ≤ length text = omega (arith, length-append ha (fields_text b)) in
      let two : Wrote ha at text second u = wrote-in-turn h (fields_text a) at first second text t u fits-ha p q in
      let three : Wrote hab at text third v = wrote-in-turn ha (fields_text b) at second third text u v fits-hab two r in
      rw line-parts (wrote-in-turn hab (newline ∷ []) at third end text v w whole three s)
