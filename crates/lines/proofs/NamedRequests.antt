-- The request that a line names is written as that line; and a request that passes test 3 is what its line names, with figures that are few and short enough to be read.
-- By the kind of request. Assumes nothing.
use Prim.Native.Nat.{ℕ, zero, suc, ◌+◌, ◌%◌, ◌≤◌}
use mathlib.Core.Path.{◌≡◌, refl, sym, ap, ◌∙◌}
use mathlib.Core.Bool.{Bool, true, false, not, ◌&&◌, false≢true}
use mathlib.Core.List.{List, [], ◌∷◌, map}
use native.Mathlib.Omega.{arith}
use borrow.Author.Tests.{eqb-true, leb-true, le-leb}
use lib.Dec.{eqb}
use lib.IntN.{ℤ, pos}
use lib.ListN.{length, drop, drop_of_length-le}
use lib.Seq.{drop-cons}
use Rattle.integers.specs.Order.{eq_z}
use Rattle.text.proofs.WrittenTaken.{AllShort}
use Rattle.rules.specs.Figures.{valid_id, valid_suffix, valid_account, valid_series, valid_side, valid_quantity, valid_price, valid_count}
use Rattle.rules.specs.Trade.{trade_figures}
use Rattle.rules.specs.Separation.{separation_figures}
use Rattle.rules.specs.Transfer.{transfer_figures}
use Rattle.rules.specs.Merge.{pairs_of, valid_pair, merge_figures}
use Rattle.rules.specs.GiveUp.{give_up_figures}
use Rattle.rules.specs.Refusal.{all_of}
use Rattle.rules.specs.Request.{Request, trade, separate, transfer, merge, lineage, give_up, new_day}
use Rattle.rules.specs.Line.{line_text, line_of, is_journalled, passes_test3}
use Rattle.rules.specs.Reader.{figure_at, most_figures, has_its_figures, request_named}
use Rattle.rules.specs.declared.Heading.{Heading}
use Rattle.rules.specs.declared.Heading.TheVariants.{Trade, Separation, Transfer, Merge, GiveUp, Day}
use Rattle.keys.proofs.Split.{and_left, and_right}
use Rattle.lines.proofs.ShortFigures.{id-short, suffix-short, account-short, series-short, side-short, quantity-short, price-short, day-short, count_most, parts-short, pairs-short, pairs-count}

-- ---- from a line to its request

-- So many figures from a place on, each by its place, and others after them.
abbrev figures_by : ℕ → ℕ → List ℤ → List ℤ → List ℤ
figures_by zero at figures others = others
figures_by (suc count) at figures others = figure_at figures at ∷ figures_by count (suc at) figures others

by_place : (count at : ℕ) (figures others : List ℤ) → at + count ≤ length figures → others ≡ drop (at + count) figures → figures_by count at figures others ≡ drop at figures
by_place zero at figures others h e = let here : at + 0 ≡ at = omega arith in e ∙ ap (λ (n : ℕ). drop n figures) here
by_place (suc count) at figures others h e =
    let next : at + suc count ≡ suc at + count = omega arith in
    ap (λ (l : List ℤ). figure_at figures at ∷ l) (by_place count (suc at) figures others (omega arith) (e ∙ ap (λ (n : ℕ). drop n figures) next)) ∙ sym (drop-cons figures at (pos 0) (omega arith))

all-by-place : (count : ℕ) (figures : List ℤ) → eqb (length figures) count ≡ true → figures_by count 0 figures [] ≡ figures
all-by-place count figures h =
    let same : length figures ≡ count = eqb-true (length figures) count h in
    by_place count 0 figures [] (omega arith) (sym (drop_of_length-le figures {i = 0 + count} (omega arith)))

pub named-written : (heading : Heading) (figures : List ℤ) → has_its_figures heading (length figures) ≡ true → line_of (request_named heading figures) ≡ line_text heading figures
unfolding has_its_figures request_named line_of
named-written Trade f h = ap (line_text Trade) (all-by-place 6 f h)
named-written Separation f h = ap (line_text Separation) (by_place 4 0 f (drop 4 f) (leb-true 4 (length f) h) refl)
named-written Transfer f h = ap (line_text Transfer) (all-by-place 5 f h)
named-written Merge f h = ap (line_text Merge) (by_place 3 0 f (drop 3 f) (leb-true 3 (length f) h) refl)
named-written (GiveUp step) f h = ap (line_text (GiveUp step)) (all-by-place 6 f h)
named-written Day f h = ap (line_text Day) (all-by-place 1 f h)

pub named-journalled : (heading : Heading) (figures : List ℤ) → is_journalled (request_named heading figures) ≡ true
unfolding request_named is_journalled
named-journalled Trade f = refl
named-journalled Separation f = refl
named-journalled Transfer f = refl
named-journalled Merge f = refl
named-journalled (GiveUp step) f = refl
named-journalled Day f = refl

-- ---- from a request to its line

-- A line that names the request, and that is read.
pub record ItsLine (r : Request) : Type 0 where
  pub heading : Heading
  pub figures : List ℤ
  pub written : line_of r ≡ line_text heading figures
  pub named : request_named heading figures ≡ r
  pub has-its-figures : has_its_figures heading (length figures) ≡ true
  pub few : length figures ≤ most_figures
  pub short : AllShort figures

all-six : (a b c d e f : Bool) → (a && b && c && d && e && f) ≡ true → (a ≡ true) × (b ≡ true) × (c ≡ true) × (d ≡ true) × (e ≡ true) × (f ≡ true)
all-six true true true true true f h = (refl, refl, refl, refl, refl, h)
all-six true true true true false f h = absurd (false≢true h)
all-six true true true false e f h = absurd (false≢true h)
all-six true true false d e f h = absurd (false≢true h)
all-six true false c d e f h = absurd (false≢true h)
all-six false b c d e f h = absurd (false≢true h)

transfer-short : (id suffix from to series : ℤ) → transfer_figures id suffix from to series ≡ true → AllShort (id ∷ suffix ∷ from ∷ to ∷ series ∷ [])
unfolding transfer_figures
transfer-short id suffix from to series h =
    let t = all-six (valid_id id) (valid_suffix suffix) (valid_account from) (valid_account to) (valid_series series) (not (eq_z from to)) h in
    (id-short id t.0, (suffix-short suffix t.1, (account-short from t.2, (account-short to t.3, (series-short series t.4, tt)))))

pub its-line : (r : Request) → is_journalled r ≡ true → passes_test3 r ≡ true → ItsLine r
unfolding is_journalled passes_test3 line_of request_named has_its_figures trade_figures separation_figures merge_figures give_up_figures
its-line (trade id account series side quantity price) j h =
    let t = all-six (valid_id id) (valid_account account) (valid_series series) (valid_side side) (valid_quantity quantity) (valid_price price) h in
    record {
      heading = Trade;
      figures = id ∷ account ∷ series ∷ side ∷ quantity ∷ price ∷ [];
      written = refl;
      named = refl;
      has-its-figures = refl;
      few = omega arith;
      short = (id-short id t.0, (account-short account t.1, (series-short series t.2, (side-short side t.3, (quantity-short quantity t.4, (price-short price t.5, tt))))));
    }
its-line (separate id suffix account series parts) j h =
    let t = all-six (valid_id id) (valid_suffix suffix) (valid_account account) (valid_series series) (valid_count (length parts)) (all_of (map valid_quantity parts)) h in
    record {
      heading = Separation;
      figures = id ∷ suffix ∷ account ∷ series ∷ parts;
      written = refl;
      named = refl;
      has-its-figures = le-leb 4 (length (id ∷ suffix ∷ account ∷ series ∷ parts)) (omega arith);
      few = omega (arith, count_most (length parts) t.4);
      short = (id-short id t.0, (suffix-short suffix t.1, (account-short account t.2, (series-short series t.3, parts-short parts t.5))));
    }
its-line (transfer id suffix from to series) j h =
    record {
      heading = Transfer;
      figures = id ∷ suffix ∷ from ∷ to ∷ series ∷ [];
      written = refl;
      named = refl;
      has-its-figures = refl;
      few = omega arith;
      short = transfer-short id suffix from to series h;
    }
its-line (merge id account series pairs) j h =
    let t =
    all-six (valid_id id) (valid_account account) (valid_series series) (eqb (length pairs % 2) 0) (valid_count (length (pairs_of pairs))) (all_of (map valid_pair (pairs_of pairs))) h in
    let even : length pairs % 2 ≡ 0 = eqb-true (length pairs % 2) 0 t.3 in
    record {
      heading = Merge;
      figures = id ∷ account ∷ series ∷ pairs;
      written = refl;
      named = refl;
      has-its-figures = le-leb 3 (length (id ∷ account ∷ series ∷ pairs)) (omega arith);
      few = omega (arith, count_most (length (pairs_of pairs)) t.4, pairs-count pairs even);
      short = (id-short id t.0, (account-short account t.1, (series-short series t.2, pairs-short pairs even t.5)));
    }
its-line (lineage id suffix) j h = absurd (false≢true j)
its-line (give_up step process id suffix giving taking series) j h =
    record {
      heading = GiveUp step;
      figures = process ∷ id ∷ suffix ∷ giving ∷ taking ∷ series ∷ [];
      written = refl;
      named = refl;
      has-its-figures = refl;
      few = omega arith;
      short = (
        id-short process (and_left (valid_id process) (transfer_figures id suffix giving taking series) h),
        transfer-short id suffix giving taking series (and_right (valid_id process) (transfer_figures id suffix giving taking series) h),
      );
    }
its-line (new_day day) j h = record { heading = Day; figures = day ∷ []; written = refl; named = refl; has-its-figures = refl; few = omega arith; short = (day-short day h, tt) }
