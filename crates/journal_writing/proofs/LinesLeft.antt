-- The loop that writes a batch's lines: the lines that are left, written where it stands, give the whole text. Before the first, after one more, and at the end. Assumes nothing.
use Prim.Native.Nat.{ℕ, ◌+◌, ◌≤◌, ◌<◌}
use native.Mathlib.Nat.{zero-add}
use native.Mathlib.Omega.{arith}
use mathlib.Core.Path.{◌≡◌, refl, sym, ap, ◌∙◌}
use mathlib.Core.List.{List, [], ◌++◌, flat_map}
use lib.IntN.{ℤ}
use lib.ListN.{length}
use Rattle.text.specs.Written.{written}
use Rattle.text.proofs.WrittenLaws.{Wrote, written-nothing, written_after, wrote-length}
use Rattle.rules.specs.Line.{line_text, line_of}
use Rattle.rules.specs.Request.{Request}
use Rattle.rules.specs.declared.Heading.TheVariants.{Trade}
use Rattle.journal_writing.proofs.TradesLeft.{lines_of, no-trades, next-line, line-longer}

-- With the lines of these figures still to be written, the next at a place.
pub record LinesLeft (lines text₀ : List ℕ) (figures : List ℤ) (text : List ℕ) (next : ℕ) : Type 0 where
  pub same_size : length text ≡ length text₀
  pub reaches : next + length (lines_of figures) ≡ length lines
  pub whole : written (lines_of figures) next text ≡ written lines 0 text₀

pub none_written : (text₀ : List ℕ) (trades : List ℤ) → LinesLeft (lines_of trades) text₀ trades text₀ 0
none_written text₀ trades = record { same_size = refl; reaches = zero-add (length (lines_of trades)); whole = refl }

module _ {lines text₀ text : List ℕ} {next : ℕ} where
  module _ (x rest : List ℤ) (six : length x ≡ 6) (left : LinesLeft lines text₀ (x ++ rest) text next) (room : length lines ≤ length text₀) where
    abbrev line : List ℕ
    line = line_text Trade (x ++ [])

    pub line-fits : next + length line ≤ length text
    line-fits = omega (arith, line-longer x rest six, left.reaches, left.same_size)

    pub one_written : {next' : ℕ} {text' : List ℕ} → Wrote line next text next' text' → LinesLeft lines text₀ rest text' next'
    one_written {next'} {text'} w =
        let fits : next + length line + length (lines_of rest) ≤ length text = omega (arith, line-longer x rest six, left.reaches, left.same_size) in
        record {
          same_size = wrote-length line next next' text text' line-fits w ∙ left.same_size;
          reaches = omega (arith, line-longer x rest six, left.reaches, w.0);
          whole = ap (λ (t : List ℕ). written (lines_of rest) next' t) w.1
              ∙ ap (λ (n : ℕ). written (lines_of rest) n (written line next text)) w.0
              ∙ written_after line (lines_of rest) next text fits
              ∙ ap (λ (l : List ℕ). written l next text) (sym (next-line x rest six))
              ∙ left.whole;
        }

  pub all-written : (rest : List ℤ) → length rest < 6 → LinesLeft lines text₀ rest text next → (next ≡ length lines) × (text ≡ written lines 0 text₀)
  unfolding flat_map
  all-written rest few left =
      let none : lines_of rest ≡ [] = ap (λ (rs : List Request). flat_map line_of rs) (no-trades rest few) in
      (omega (arith, left.reaches, ap length none), sym (written-nothing next text) ∙ ap (λ (l : List ℕ). written l next text) (sym none) ∙ left.whole)
