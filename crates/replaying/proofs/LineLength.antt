-- A line has at least three bytes, so that a text of as many bytes as an address can count has fewer lines than an i64 can. Assumes nothing.
use Prim.Native.Nat.{ℕ, ◌+◌, ◌≤◌}
use native.Mathlib.Omega.{arith}
use mathlib.Core.Path.{◌≡◌, ap, ◌∙◌}
use mathlib.Core.Bool.{true}
use mathlib.Core.List.{List, [], ◌∷◌, ◌++◌}
use mathlib.Core.Option.{some}
use borrow.Author.Tests.{eqb-true, leb-true}
use lib.IntN.{ℤ}
use lib.ListN.{length, length-append}
use Rattle.text.specs.Decimal.{number_text}
use Rattle.text.specs.Fields.{newline, fields_text}
use Rattle.text.specs.Scan.{Taken}
use Rattle.rules.specs.Request.{Request}
use Rattle.rules.specs.Line.{heading_text, line_text, line_of, is_journalled, passes_test3}
use Rattle.rules.specs.Reader.{has_its_figures, take_request}
use Rattle.rules.specs.declared.Heading.{Heading}
use Rattle.rules.specs.declared.Heading.TheVariants.{Trade, Separation, Transfer, Merge, GiveUp, Day}
use Rattle.lines.proofs.Exactly.{taken-line}
use Rattle.lines.proofs.NamedRequests.{ItsLine, its-line}

-- Each figure has its tab.
fields-long : (figures : List ℤ) → length figures ≤ length (fields_text figures)
unfolding fields_text
fields-long [] = omega arith
fields-long (z ∷ rest) = omega (arith, fields-long rest, length-append (number_text z) (fields_text rest))

heading-long : (heading : Heading) → 1 ≤ length (heading_text heading)
heading-long Trade = omega arith
heading-long Separation = omega arith
heading-long Transfer = omega arith
heading-long Merge = omega arith
heading-long (GiveUp step) = omega arith
heading-long Day = omega arith

one-figure : (heading : Heading) (count : ℕ) → has_its_figures heading count ≡ true → 1 ≤ count
unfolding has_its_figures
one-figure Trade count h = omega (arith, eqb-true count 6 h)
one-figure Separation count h = omega (arith, leb-true 4 count h)
one-figure Transfer count h = omega (arith, eqb-true count 5 h)
one-figure Merge count h = omega (arith, leb-true 3 count h)
one-figure (GiveUp step) count h = omega (arith, eqb-true count 6 h)
one-figure Day count h = omega (arith, eqb-true count 1 h)

line-text-long : (heading : Heading) (figures : List ℤ) → 1 ≤ length figures → 3 ≤ length (line_text heading figures)
unfolding line_text
line-text-long heading figures h =
    omega (arith, length-append (heading_text heading) (fields_text figures ++ (newline ∷ [])), length-append (fields_text figures) (newline ∷ []), fields-long figures, heading-long heading)

line-long : (r : Request) → is_journalled r ≡ true → passes_test3 r ≡ true → 3 ≤ length (line_of r)
line-long r j ok =
    let l : ItsLine r = its-line r j ok in
    let same : length (line_of r) ≡ length (line_text l.heading l.figures) = ap length l.written in
    omega (arith, line-text-long l.heading l.figures (one-figure l.heading (length l.figures) l.has-its-figures))

-- So many bytes fewer are left once a line is taken off.
pub three-fewer : (text : List ℕ) (t : Taken Request) → take_request text ≡ some t → length t.rest + 3 ≤ length text
three-fewer text t read =
    let w : (text ≡ line_of t.value ++ t.rest) × (passes_test3 t.value ≡ true) × (is_journalled t.value ≡ true) = taken-line text t read in
    let parts : length text ≡ length (line_of t.value) + length t.rest = ap length w.0 ∙ length-append (line_of t.value) t.rest in
    omega (arith, line-long t.value w.2 w.1)
