-- By what the lookup says of a record that is there.
use Rattle.std.proofs.Common.{Ok, ◌≡◌, true, ap, sym, ◌∙◌, List, ℤ, pos, ◌+ℤ◌, ◌≤ℤ◌, FitsSigned, w64, to_z, of_z}
use Rattle.std.proofs.Math.Option.{some}
use mir.Facts.{to_z-of_z}
use Rattle.integers.proofs.Linear.{zarith, +-lin}
use Rattle.rules.specs.Figures.{greatest_of_suffixes}
use Rattle.rules.specs.Rows.{key_of, record_key}
use Rattle.rules.specs.NamedRecord.{next_suffix}
use Rattle.rules.specs.Tables.{records_layout, sound_record_rows}
use Rattle.lookup.specs.Lookup.{place_in, record_sought}
use Rattle.lookup.specs.Sought.{sought_told}
use Rattle.lookup.specs.declared.Present as There
use Rattle.lookup.specs.SoughtRows.{PresentAt}
use Rattle.lookup.proofs.TableLookup.{records-first}
use Rattle.lookup.proofs.TableSought.{table-present}
use Rattle.verdict.proofs.SoundReads.{greatest-range}
use Rattle.requests.proofs.record_named.Goals as goal

module _ (cells : List ℤ) (id suffix : ℤ) (t : There.Present) (known : (sound_record_rows cells ≡ true) × (record_sought cells id suffix ≡ sought_told (Ok t))) where
  there : PresentAt records_layout record_key cells (key_of id suffix) t.row t.greatest t.next
  there = table-present records_layout record_key records-first cells (key_of id suffix) t.row t.greatest t.next known.1

  range : (pos 0 ≤ℤ t.greatest) × (t.greatest ≤ℤ greatest_of_suffixes)
  range = greatest-range cells known.0 id t.greatest there.greatest-is

  read : to_z w64 (of_z w64 t.greatest) ≡ t.greatest
  read = to_z-of_z {w = w64} (omega (zarith, range.0, range.1))

  next_fits : FitsSigned w64 (t.greatest +ℤ pos 1)
  next_fits = omega (zarith, range.0, range.1, +-lin t.greatest (pos 1))

  -- The suffix as the code has it.
  next : to_z w64 (of_z w64 (to_z w64 (of_z w64 t.greatest) +ℤ pos 1)) ≡ t.greatest +ℤ pos 1
  next = simp read (to_z-of_z next_fits)

pub read_record-record-requires : goal.read_record-record-requires
read_record-record-requires c = (c.requires.0, (there c.args.cells.now c.args.id c.args.suffix c.args.there c.requires).row_within)

pub overflow_add-next : goal.overflow_add-next
overflow_add-next c = simp (read c.args.cells.now c.args.id c.args.suffix c.args.there c.requires) (next_fits c.args.cells.now c.args.id c.args.suffix c.args.there c.requires)

pub returns : goal.returns
unfolding next_suffix
returns c =
    let cells : List ℤ = c.args.cells.now in
    let id : ℤ = c.args.id in
    let found : PresentAt records_layout record_key cells (key_of id c.args.suffix) c.args.there.row c.args.there.greatest c.args.there.next
    = there cells id c.args.suffix c.args.there c.requires in
    let next : to_z w64 (of_z w64 (to_z w64 (of_z w64 c.args.there.greatest) +ℤ pos 1)) ≡ c.args.there.greatest +ℤ pos 1
    = next cells id c.args.suffix c.args.there c.requires in
    record {
      row_within = found.row_within;
      row_is = c.read_record-record.ensures;
      found = found.found ∙ ap some (sym c.read_record-record.ensures);
      next-is = next ∙ ap next_suffix (sym found.greatest-is);
      place_is = found.next-is ∙ ap (λ (z : ℤ). place_in records_layout (key_of id z) cells) (sym next);
    }
