-- Test 1 of the records from its parts: the current day, and the table with each row asked with its day, in one pass. Assumes nothing.
use Prim.Native.Nat.{◌≤◌}
use native.Mathlib.Omega.{arith}
use mathlib.Core.Path.{◌≡◌, refl, sym, ◌∙◌, ap}
use mathlib.Core.Bool.{Bool, true, false, ◌&&◌}
use mathlib.Core.List.{List, [], ◌∷◌, map}
use lib.IntN.{ℤ, pos}
use lib.ListN.{length}
use borrow.Author.Tests.{lt-leb}
use Rattle.std.proofs.lemmas.Bool.{and_right}
use Rattle.integers.specs.Order.{in_range}
use Rattle.rules.specs.Figures.{last_day}
use Rattle.rules.specs.Keyed.{rising}
use Rattle.rules.specs.Refusal.{all_of}
use Rattle.rules.specs.Rows.{record_key, sound_record}
use Rattle.rules.specs.Layout.{rows_of, count_is_sound}
use Rattle.rules.specs.Tables.{records_layout, sound_table, sound_record_rows, current_day, day_within, sound_days, sound_records}
use Rattle.rules.specs.declared.Record.{Record}
use Rattle.scan.specs.Scan.{sound_record_on}

and-pairs : (x y p q : Bool) → ((x && y) && (p && q)) ≡ ((x && p) && (y && q))
and-pairs true true p q = refl
and-pairs true false true q = refl
and-pairs true false false q = refl
and-pairs false y p q = refl

-- Two tests of every row are one pass.
all_both : (f g : Record → Bool) (rows : List Record) → all_of (map (λ (r : Record). f r && g r) rows) ≡ (all_of (map f rows) && all_of (map g rows))
unfolding all_of
all_both f g [] = refl
all_both f g (r ∷ rest) = ap (λ (b : Bool). (f r && g r) && b) (all_both f g rest) ∙ and-pairs (f r) (g r) (all_of (map f rest)) (all_of (map g rest))

parts_join : (count rises days sound : Bool) → ((count && rises) && (days && sound)) ≡ (((count && rises) && sound) && (true && days))
parts_join true true true true = refl
parts_join true true true false = refl
parts_join true true false true = refl
parts_join true true false false = refl
parts_join true false days sound = refl
parts_join false rises days sound = refl

module _ (cells : List ℤ) where
  -- With a day in range, both parts of test 1 are the one table's, each row asked with its day.
  pub as-one-table : in_range (pos 0) (pos last_day) (current_day cells) ≡ true → sound_table records_layout record_key (sound_record_on (current_day cells)) cells ≡ sound_records cells
  unfolding sound_table sound_record_rows sound_days sound_records sound_record_on
  as-one-table day =
      let rows : List Record = rows_of records_layout cells in
      let start : Bool = count_is_sound records_layout cells && rising record_key rows in
      ap (λ (b : Bool). start && b) (all_both (day_within (current_day cells)) sound_record rows)
      ∙ parts_join (count_is_sound records_layout cells) (rising record_key rows) (all_of (map (day_within (current_day cells)) rows)) (all_of (map sound_record rows))
      ∙ ap (λ (b : Bool). (start && all_of (map sound_record rows)) && (b && all_of (map (day_within (current_day cells)) rows))) (sym day)

  pub no-day : length cells ≤ 1 → false ≡ sound_records cells
  unfolding sound_table sound_record_rows sound_records count_is_sound
  no-day h = rw (lt-leb 2 (length cells) (omega arith)) refl

  pub day-out-of-range : in_range (pos 0) (pos last_day) (current_day cells) ≡ false → false ≡ sound_records cells
  unfolding sound_records sound_days
  day-out-of-range e = rw e (sym (and_right (sound_record_rows cells) false refl))
