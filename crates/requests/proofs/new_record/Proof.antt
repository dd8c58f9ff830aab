-- `requests::new_record` meets its contract: the figures are those given, each read back from its bits. Assumes nothing.
use mir.Facts.{to_z-of_z}
use Rattle.rules.specs.Rows.{new_record}
use Rattle.requests.proofs.new_record.Statement.{statement}
use Rattle.requests.proofs.new_record.Tie as tie

returns : tie.Need-returns
unfolding new_record
returns s = simp (
  to_z-of_z s.ranges.today,
  to_z-of_z s.ranges.id,
  to_z-of_z s.ranges.kind,
  to_z-of_z s.ranges.account,
  to_z-of_z s.ranges.series,
  to_z-of_z s.ranges.side,
  to_z-of_z s.ranges.quantity,
  to_z-of_z s.ranges.price,
  to_z-of_z s.ranges.long,
  to_z-of_z s.ranges.short,
)

pub new_record_spec : {M : Type 1} → statement M
new_record_spec = tie.close (tie.spec returns)
