use Rattle.std.proofs.Common.{rules, sym, ap, ◌∙◌, FitsSigned, w64}
use Rattle.rules.specs.Rows.{record_key}
use Rattle.rules.specs.Tables.{records_layout}
use Rattle.rules.specs.declared.Record.{Record}
use Rattle.keys.proofs.Split.{none-some}
use Rattle.lookup.specs.Lookup.{sought_in}
use Rattle.lookup.proofs.TableLookup.{records-first}
use Rattle.lookup.proofs.TableSought.{table-present, table-lacks}
use Rattle.merge.proofs.Asked.{key-read}
use Rattle.merge.proofs.booking.insert_merged.Goals as goal

pub returns-in_default : goal.returns-in_default
returns-in_default c =
    let m : Record = c.args.merged in
    let f : FitsSigned w64 m.id = search rules in
    let g : FitsSigned w64 m.suffix = search rules in
    let e = c.in_default.ensures ∙ ap (λ k. sought_in records_layout k c.args.records.now) (key-read m.id m.suffix f g) in
    none-some c.requires.2 (table-present records_layout record_key records-first c.args.records.now (record_key m) _ _ _ (sym e)).found

pub insert_record-requires : goal.insert_record-requires
insert_record-requires c =
    let m : Record = c.args.merged in
    let f : FitsSigned w64 m.id = search rules in
    let g : FitsSigned w64 m.suffix = search rules in
    let e = c.in-Err.ensures ∙ ap (λ k. sought_in records_layout k c.args.records.now) (key-read m.id m.suffix f g) in
    (c.requires.0, c.requires.1, c.requires.2, c.requires.3, (table-lacks records_layout record_key records-first c.args.records.now (record_key m) _ _ (sym e)).place_is)
