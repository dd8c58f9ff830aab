use Rattle.std.proofs.Common.{rules, ◌≡◌, true, sym, ap, ◌∙◌, List, ℕ, ℤ, pos, FitsSigned, w64}
use Rattle.std.proofs.Math.Option.{Option, none, some}
use lib.Signed.{≤ℤ_refl}
use mir.Facts.{to_z-of_z}
use Rattle.rules.specs.Figures.{merge_kind}
use Rattle.rules.specs.Keyed.{Key, is_some, find}
use Rattle.rules.specs.NamedRecord.{the_record, next_suffix}
use Rattle.rules.specs.Rows.{key_of, record_key, inverse_record}
use Rattle.rules.specs.Layout.{rows_of}
use Rattle.rules.specs.Tables.{records_layout, sound_record_rows}
use Rattle.rules.specs.declared.Record.{Record}
use Rattle.keys.proofs.Split.{clash}
use Rattle.keys.proofs.Clauses.{is_some-none}
use Rattle.lookup.specs.Lookup.{place_in, sought_in}
use Rattle.lookup.specs.Sought.{Present}
use Rattle.lookup.specs.SoughtRows.{PresentAt}
use Rattle.lookup.proofs.TableLookup.{records-first}
use Rattle.lookup.proofs.TableSought.{table-present, table-lacks}
use Rattle.soundness.proofs.NamedRecord.{next_of, free-from-next}
use Rattle.verdict.proofs.SoundReads as SoundReads
use Rattle.requests.specs.declared.Named.{Named}
use Rattle.requests.specs.KnownRecord.{KnownRecord}
use Rattle.merge_sources.specs.Sources.{inverse_named}
use Rattle.merge_sources.proofs.SourceList.{found-record}
use Rattle.merge.proofs.booking.insert_inverse.Goals as goal

-- The inverse of a source, its key, at which nothing stands since it has the id's next suffix, and where it belongs.
module _ (cells : List ℤ) (sound : sound_record_rows cells ≡ true) (today id suffix into : ℤ) where
  abbrev rows : List Record
  rows = rows_of records_layout cells

  abbrev key : Key
  key = key_of id suffix

  abbrev inverse : Record
  inverse = inverse_named today cells key into

  inverse-key : (r : Record) → find record_key key rows ≡ some r → record_key inverse ≡ key_of id (next_of rows id)
  unfolding inverse_record
  inverse-key r e =
      ap (λ (z : ℤ). key_of z (next_of rows id))
      (ap (λ (x : Record). x.id) (found-record (find record_key key rows) r e) ∙ (SoundReads.found-record cells sound id suffix r e).id-is)

  absent : (r : Record) → find record_key key rows ≡ some r → find record_key (record_key inverse) rows ≡ none
  absent r e = ap (λ (k : Key). find record_key k rows) (inverse-key r e) ∙ free-from-next rows id (next_of rows id) (≤ℤ_refl (next_of rows id))

  place-is : (row next : ℕ) (greatest : ℤ) → Present row greatest next ≡ sought_in records_layout key cells → next ≡ place_in records_layout (record_key inverse) cells
  unfolding next_suffix
  place-is row next greatest e =
      let there : PresentAt records_layout record_key cells key row greatest next = table-present records_layout record_key records-first cells key row greatest next (sym e) in
      there.next-is
      ∙ ap (λ (k : Key). place_in records_layout k cells) (ap (λ (z : Option ℤ). key_of id (next_suffix z)) (sym there.greatest-is) ∙ sym (inverse-key _ there.found))

  made : (m : Named) → KnownRecord cells id suffix m → inverse_record today m.record m.next merge_kind (pos 0) (pos 0) into ≡ inverse
  made m known =
      let record_is : m.record ≡ the_record (find record_key key rows) = sym (found-record (find record_key key rows) m.record known.found) in
      λ i. inverse_record today (record_is i) (known.next-is i) merge_kind (pos 0) (pos 0) into

pub returns-in_default : goal.returns-in_default
returns-in_default c =
    let e = simp (to_z-of_z c.ranges.id, to_z-of_z c.ranges.suffix) at c.in_default.ensures in
    clash c.requires.1
    (ap (λ (o : Option Record). is_some o)
    (table-lacks records_layout record_key records-first c.args.records.now (key_of c.args.id c.args.suffix) _ _ (sym e)).absent ∙ is_some-none Record)

pub inverse_record-inverse-requires : goal.inverse_record-inverse-requires
inverse_record-inverse-requires c =
    let known = simp (to_z-of_z c.ranges.id, to_z-of_z c.ranges.suffix) at c.record_named-named.ensures in
    (SoundReads.found-record c.args.records.now c.requires.0 c.args.id c.args.suffix c.record_named-named.result.record known.found).quantity-small

pub insert_record-requires : goal.insert_record-requires
insert_record-requires c =
    let cells : List ℤ = c.args.records.now in
    let m : Named = c.record_named-named.result in
    let known = simp (to_z-of_z c.ranges.id, to_z-of_z c.ranges.suffix) at c.record_named-named.ensures in
    let f : FitsSigned w64 m.next = search rules in
    let is = simp (to_z-of_z f, to_z-of_z c.ranges.today, to_z-of_z c.ranges.into) at c.inverse_record-inverse.ensures in
    let e = simp (to_z-of_z c.ranges.id, to_z-of_z c.ranges.suffix) at c.in-Ok.ensures in
    rw (is ∙ made cells c.requires.0 c.args.today c.args.id c.args.suffix c.args.into m known) (
      c.requires.0,
      c.requires.2,
      absent cells c.requires.0 c.args.today c.args.id c.args.suffix c.args.into m.record known.found,
      c.requires.3,
      place-is cells c.requires.0 c.args.today c.args.id c.args.suffix c.args.into c.in-Ok.there.row c.in-Ok.there.next c.in-Ok.there.greatest e,
    )

pub returns : goal.returns
returns c =
    let m : Named = c.record_named-named.result in
    let known = simp (to_z-of_z c.ranges.id, to_z-of_z c.ranges.suffix) at c.record_named-named.ensures in
    let f : FitsSigned w64 m.next = search rules in
    let is = simp (to_z-of_z f, to_z-of_z c.ranges.today, to_z-of_z c.ranges.into) at c.inverse_record-inverse.ensures in
    (rw (is ∙ made c.args.records.now c.requires.0 c.args.today c.args.id c.args.suffix c.args.into m known) at c.insert_record.ensures.0, c.insert_record.ensures.1)
