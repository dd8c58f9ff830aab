-- The way to the origin of a suffix, as the code gives it, one step at a time on a sound records table: a missing row, the row with suffix 0, one link more
-- than from the parent; and how many links there can be. By the laws of the way. Assumes nothing.
use Prim.Native.Nat.{ℕ, ◌<◌}
use mathlib.Core.Path.{◌≡◌, refl, sym, ◌∙◌, ap}
use mathlib.Core.Bool.{true, false}
use mathlib.Core.List.{List}
use mathlib.Core.Option.{Option, none, some}
use lib.IntN.{ℤ, pos, nat_abs, ◌+ℤ◌}
use lib.ListN.{length}
use lib.Signed.{◌≤ℤ◌}
use mir.Facts.{to_z-of_z}
use mir.Syntax.{w64}
use mir.Val.{SFits, to_z, of_z}
use Rattle.integers.specs.Order.{eq_z}
use Rattle.integers.proofs.Linear.{zarith, abs-lin}
use Rattle.rules.specs.Figures.{valid_suffix, greatest_of_suffixes}
use Rattle.std.specs.Prelude.{Result, Ok, Err, Some, None}
use Rattle.std.specs.Prelude.{Option as Maybe}
use Rattle.std.specs.Option.{ok_or}
use Rattle.rules.specs.declared.refusals.Reason.{Reason}
use Rattle.lineage.specs.Origin.{origin_told}
use Rattle.lineage.specs.declared.Original.{Original}
use Rattle.std.specs.Result.{result_ok}
use Rattle.rules.specs.Lineage.{Origin, one_more_link}
use Rattle.rules.specs.Layout.{row_at, rows_of}
use Rattle.rules.specs.Rows.{key_of, record_key}
use Rattle.rules.specs.Tables.{records_layout, sound_record_rows}
use Rattle.rules.specs.declared.Record.{Record}
use Rattle.lookup.specs.Greatest.{greatest_told}
use Rattle.lookup.specs.Lookup.{record_sought}
use Rattle.lookup.specs.Sought.{sought_told}
use Rattle.lookup.specs.declared.Absent.{Absent}
use Rattle.lookup.specs.declared.Present.{Present}
use Rattle.lookup.proofs.TableLookup.{records-first}
use Rattle.lookup.proofs.TableSought.{table-present, table-lacks}
use Rattle.soundness.proofs.FigureRanges.{suffix-range}
use Rattle.verdict.proofs.Lineage.{origin-missing, origin-first, origin-parent}
use Rattle.verdict.proofs.LineageAnswer.{records_of_id, origin_in, descending, links-range}

-- ---- figures read back from their bits

pub price-read : {price links : ℤ} {o : Option Origin} → SFits w64 price → some (record { price = price; links = links }) ≡ o
    → some (record { price = to_z w64 (of_z w64 price); links = links }) ≡ o
price-read {price} {links} f e = ap (λ (n : ℤ). some (record { price = n; links = links })) (to_z-of_z f) ∙ e

pub links-read : {price links : ℤ} {o : Option Origin} → SFits w64 links → some (record { price = price; links = links }) ≡ o
    → some (record { price = price; links = to_z w64 (of_z w64 links) }) ≡ o
links-read {price} f e = ap (λ (n : ℤ). some (record { price = price; links = n })) (to_z-of_z f) ∙ e

pub suffix-read : {suffix : ℤ} {t : ℕ} {S : Type 0} → SFits w64 suffix → (nat_abs suffix < t) × (S × (valid_suffix suffix ≡ true))
    → (nat_abs (to_z w64 (of_z w64 suffix)) < t) × (S × (valid_suffix (to_z w64 (of_z w64 suffix)) ≡ true))
suffix-read f h = simp (to_z-of_z f) h

-- ---- a row on the way, by the lookup's answer

module _ (rs : List ℤ) (id at : ℤ) where
  module _ (sought : Result Present Absent) (told : sought_told sought ≡ record_sought rs id at) where
    found-row : (there : Present) → result_ok sought ≡ Some there
        → (there.row < length (rows_of records_layout rs)) × (records_of_id rs id at ≡ some (row_at records_layout rs there.row))
    found-row there e = go sought told e
      where
        go : (r : Result Present Absent) → sought_told r ≡ record_sought rs id at → result_ok r ≡ Some there
            → (there.row < length (rows_of records_layout rs)) × (records_of_id rs id at ≡ some (row_at records_layout rs there.row))
        go (Ok p) h e =
            let known = table-present records_layout record_key records-first rs (key_of id at) p.row p.greatest p.next (sym h) in
            let same : p ≡ there = cc in
            rw (sym same) (known.row_within, known.found)
        go (Err a) h e = absurd (cc)

    module _ (there : Present) (found : result_ok sought ≡ Some there) where
      pub row-within : there.row < length (rows_of records_layout rs)
      row-within = (found-row there found).0

      pub row-read : (r : Record) → r ≡ row_at records_layout rs there.row → records_of_id rs id at ≡ some r
      row-read r e = (found-row there found).1 ∙ ap some (sym e)

    pub no-row : result_ok sought ≡ None → records_of_id rs id at ≡ none
    no-row e = go sought told e
      where
        go : (r : Result Present Absent) → sought_told r ≡ record_sought rs id at → result_ok r ≡ None → records_of_id rs id at ≡ none
        go (Ok p) h e = absurd (cc)
        go (Err a) h e = (table-lacks records_layout record_key records-first rs (key_of id at) a.place (greatest_told a.greatest) (sym h)).absent

-- ---- one step

module _ (rs : List ℤ) (id suffix : ℤ) where
  pub step-missing : records_of_id rs id suffix ≡ none → none ≡ origin_in rs id suffix
  step-missing e = sym (origin-missing (records_of_id rs id) (nat_abs suffix) suffix e)

  module _ (r : Record) (named : records_of_id rs id suffix ≡ some r) where
    pub step-first : eq_z suffix (pos 0) ≡ true → some (record { price = r.price; links = pos 0 }) ≡ origin_in rs id suffix
    step-first z = sym (origin-first (records_of_id rs id) (nat_abs suffix) suffix r named z)

    module _ (sound : sound_record_rows rs ≡ true) (z : eq_z suffix (pos 0) ≡ false) where
      -- The parent is nearer to 0.
      pub parent-nearer : nat_abs r.parent < nat_abs suffix
      parent-nearer = let d = descending rs sound id suffix r named z in omega (zarith, d.0, d.1, abs-lin suffix, abs-lin r.parent)

      module _ (o : Maybe Original) (told : origin_told o ≡ origin_in rs id r.parent) where
        onward : origin_in rs id suffix ≡ one_more_link (origin_told o)
        onward = origin-parent (records_of_id rs id) (descending rs sound id) suffix r named z ∙ ap one_more_link (sym told)

        pub step-onward-missing : o ≡ None → none ≡ origin_in rs id suffix
        unfolding one_more_link
        step-onward-missing e = sym (onward ∙ ap (λ (w : Maybe Original). one_more_link (origin_told w)) e)

        pub step-onward : (p : Original) → o ≡ Some p → some (record { price = p.price; links = p.links +ℤ pos 1 }) ≡ origin_in rs id suffix
        unfolding one_more_link
        step-onward p e = sym (onward ∙ ap (λ (w : Maybe Original). one_more_link (origin_told w)) e)

-- ---- how many links

-- Links that one more fits: they are no more than the suffix.
pub links-few : (rs : List ℤ) → sound_record_rows rs ≡ true → (id suffix : ℤ) → valid_suffix suffix ≡ true → (o : Maybe Original) → origin_told o ≡ origin_in rs id suffix
    → (p : Original) → o ≡ Some p → (pos 0 ≤ℤ p.links) × (p.links ≤ℤ greatest_of_suffixes)
links-few rs sound id suffix v o told p e =
    let range = links-range rs sound id suffix (record { price = p.price; links = p.links }) v (sym told ∙ ap origin_told e) in
    (range.0, omega (zarith, range.1, (suffix-range suffix v).1))

-- ---- the original that the code answers, or the refusal

pub lacks-original : (o : Maybe Original) (r e : Reason) → ok_or o r ≡ Err e → (origin_told o ≡ none) × (e ≡ r)
lacks-original None r e h = (refl, cc)
lacks-original (Some o) r e h = absurd (cc)

pub has-original : (o : Maybe Original) (r : Reason) (p : Original) → ok_or o r ≡ Ok p → origin_told o ≡ some (record { price = p.price; links = p.links })
has-original None r p h = absurd (cc)
has-original (Some o) r p h = let same : o ≡ p = cc in rw same
