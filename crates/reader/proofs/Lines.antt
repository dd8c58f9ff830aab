-- A line from a place on, by its heading, its figures and the byte after them. Assumes nothing.
use Prim.Native.Nat.{ℕ, ◌+◌}
use native.Mathlib.Omega.{arith}
use mathlib.Core.Path.{◌≡◌, sym, ◌∙◌, ap}
use mathlib.Core.List.{List}
use mathlib.Core.Option.{none, some}
use borrow.Author.Tests.{ne_eqb}
use lib.IntN.{ℤ}
use lib.ListN.{get_or, drop}
use Rattle.text.specs.Scan.{taken, take_fields}
use Rattle.rules.specs.Reader.{take_heading, most_figures, end_of_line, figures_after, take_line}
use Rattle.rules.specs.declared.Heading.{Heading}
use Rattle.reader.proofs.Places.{first-there, begins}

pub no_line : (text : List ℕ) → none ≡ take_heading text → none ≡ take_line text
unfolding take_line figures_after
no_line text h = ap figures_after h

-- After a heading and figures.
module _
    (text : List ℕ)
    (at next : ℕ)
    {heading : Heading}
    {after : List ℕ}
    {figures : List ℤ}
    {b : ℕ}
    (headed : some (taken heading after) ≡ take_heading (drop at text))
    (fields : taken figures (drop next text) ≡ take_fields most_figures after)
    (read : b ≡ get_or text next 0)
  where
    line-by-end : end_of_line heading (taken figures (drop next text)) ≡ take_line (drop at text)
    unfolding take_line figures_after
    line-by-end = ap (end_of_line heading) fields ∙ ap figures_after headed

    pub no-newline : (b ≡ 10 → ⊥) → none ≡ take_line (drop at text)
    unfolding end_of_line
    no-newline other =
        let bad : end_of_line heading (taken figures (drop next text)) ≡ none = rw (first-there text next read, ne_eqb b 10 other) in
        sym bad ∙ line-by-end

    pub newline-there : b ≡ 10 → some (taken (record { heading = heading; figures = figures }) (drop (next + 1) text)) ≡ take_line (drop at text)
    unfolding end_of_line
    newline-there e = sym (ap (λ (rest : List ℕ). end_of_line heading (taken figures rest)) (begins text next read e (omega arith))) ∙ line-by-end
