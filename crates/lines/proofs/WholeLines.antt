-- A whole line, of any heading and any figures: what is taken is what would be written, and what is written is taken back. Assumes nothing.
use Prim.Native.Nat.{ℕ, ◌≤◌}
use mathlib.Core.Path.{◌≡◌, refl, sym, ap, ◌∙◌}
use mathlib.Core.List.{List, ◌∷◌, ◌++◌, append_assoc}
use mathlib.Core.Option.{Option, none, some, none-ne-some, some-injective}
use native.Mathlib.Omega.{arith}
use borrow.Author.Tests.{eqb-true}
use lib.Dec.{eqb}
use lib.IntN.{ℤ}
use lib.ListN.{length, drop}
use Rattle.text.specs.Fields.{newline, fields_text}
use Rattle.text.specs.Scan.{Taken, taken, first, take_fields}
use Rattle.text.proofs.FirstByte.{first_rest, below-digits}
use Rattle.text.proofs.TakenWritten.{fields-written}
use Rattle.text.proofs.WrittenTaken.{AllShort, fields-taken}
use Rattle.rules.specs.Line.{heading_text, line_text}
use Rattle.rules.specs.Reader.{Line, take_heading, most_figures, end_of_line, figures_after, take_line}
use Rattle.rules.specs.declared.Heading.{Heading}
use Rattle.lines.proofs.Chosen.{chosen-only}
use Rattle.lines.proofs.Headings.{heading-written, heading-taken}

abbrev pub line_with : Heading → List ℤ → Line
line_with heading figures = record { heading = heading; figures = figures }

-- Heading, fields, newline and rest, grouped as they are read.
line-parts : (heading : Heading) (figures : List ℤ) (rest : List ℕ) → line_text heading figures ++ rest ≡ heading_text heading ++ (fields_text figures ++ (newline ∷ rest))
unfolding line_text
line-parts heading figures rest = simp append_assoc

end-written : (heading : Heading) (f : Taken (List ℤ)) (t : Taken Line) → end_of_line heading f ≡ some t
    → heading_text heading ++ (fields_text f.value ++ f.rest) ≡ line_text t.value.heading t.value.figures ++ t.rest
unfolding end_of_line
end-written heading f t h =
    let (e, g) = chosen-only (eqb (first f.rest) newline) (some (taken (line_with heading f.value) (drop 1 f.rest))) t h in
    let at : first f.rest ≡ newline = eqb-true (first f.rest) newline e in
    ap (λ (l : List ℕ). heading_text heading ++ (fields_text f.value ++ l)) (first_rest f.rest (omega arith) ∙ ap (λ (b : ℕ). b ∷ drop 1 f.rest) at)
    ∙ sym (line-parts heading f.value (drop 1 f.rest))
    ∙ ap (λ (t : Taken Line). line_text t.value.heading t.value.figures ++ t.rest) (some-injective (taken (line_with heading f.value) (drop 1 f.rest)) t g)

figures-written : (text : List ℕ) (o : Option (Taken Heading)) (t : Taken Line) → take_heading text ≡ o → figures_after o ≡ some t
    → text ≡ line_text t.value.heading t.value.figures ++ t.rest
unfolding figures_after
figures-written text none t e h = absurd (none-ne-some t h)
figures-written text (some w) t e h =
    heading-written text w e
    ∙ ap (λ (l : List ℕ). heading_text w.value ++ l) (fields-written most_figures w.rest)
    ∙ end-written w.value (take_fields most_figures w.rest) t h

pub whole-line-written : (text : List ℕ) (t : Taken Line) → take_line text ≡ some t → text ≡ line_text t.value.heading t.value.figures ++ t.rest
unfolding take_line
whole-line-written text t h = figures-written text (take_heading text) t refl h

pub whole-line-taken : (heading : Heading) (figures : List ℤ) (rest : List ℕ) → length figures ≤ most_figures → AllShort figures
    → take_line (line_text heading figures ++ rest) ≡ some (taken (line_with heading figures) rest)
unfolding take_line figures_after end_of_line
whole-line-taken heading figures rest few short =
    ap take_line (line-parts heading figures rest)
    ∙ ap figures_after (heading-taken heading (fields_text figures ++ (newline ∷ rest)))
    ∙ ap (end_of_line heading) (fields-taken most_figures figures (newline ∷ rest) few short (below-digits newline (omega arith)) refl)
