use Rattle.std.proofs.Common.{sym, ap, ◌∙◌}
use Rattle.std.proofs.Math.Option.{some}
use Rattle.merge_sources.proofs.SourceRows.{row_kept, row_within, row-record}
use Rattle.merge.proofs.sources.source_record.Goals as goal

pub bounds-sources-place : goal.bounds-sources-place
bounds-sources-place c = (row_kept c.args.records.now c.args.pairs.now c.args.sources.now c.args.place c.requires.2 c.requires.1).0

pub read_record-requires : goal.read_record-requires
read_record-requires c =
    (c.requires.0, row_within c.args.records.now c.args.pairs.now c.args.place _ (row_kept c.args.records.now c.args.pairs.now c.args.sources.now c.args.place c.requires.2 c.requires.1).1)

pub returns : goal.returns
returns c =
    row-record c.args.records.now c.args.pairs.now c.args.place _ (row_kept c.args.records.now c.args.pairs.now c.args.sources.now c.args.place c.requires.2 c.requires.1).1
    ∙ ap some (sym c.read_record.ensures)
