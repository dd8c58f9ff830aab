-- `requests::adjustable_record` meets its contract: the figures are those given, each read back from its bits. Assumes nothing.
use mir.Facts.{to_z-of_z}
use Rattle.rules.specs.Rows.{adjustable_record}
use Rattle.scan.proofs.ReadBack.{read_back}
use Rattle.requests.proofs.adjustable_record.Statement.{statement}
use Rattle.requests.proofs.adjustable_record.Tie as tie

returns : tie.Need-returns
unfolding adjustable_record
returns c =
    let s : tie.Start = c.before in
    let r = s.args.r in
    let known = c.struct_told-1.given in
    simp (
      read_back r.id known.0.1,
      read_back r.suffix known.1.0.1,
      read_back r.series known.1.1.1.1.1.1.0.1,
      read_back r.side known.1.1.1.1.1.1.1.0.1,
      read_back r.price known.1.1.1.1.1.1.1.1.1.0.1,
      to_z-of_z s.ranges.today,
      to_z-of_z s.ranges.suffix,
      to_z-of_z s.ranges.kind,
      to_z-of_z s.ranges.account,
      to_z-of_z s.ranges.quantity,
      to_z-of_z s.ranges.long,
      to_z-of_z s.ranges.short,
    )

pub adjustable_record_spec : {M : Type 1} → statement M
adjustable_record_spec = tie.close (tie.spec returns)
