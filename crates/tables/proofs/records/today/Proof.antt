-- `tables::records::today` meets its contract: cell 1 of a sound table, read back from its bits. Assumes nothing.
use Rattle.rules.specs.Tables.{current_day}
use Rattle.cells.proofs.SoundCells.{records-known}
use Rattle.scan.proofs.ReadBack.{read_back}
use Rattle.tables.proofs.records.today.Statement.{statement}
use Rattle.tables.proofs.records.today.Tie as tie

pub today_spec : {M : Type 1} → statement M
today_spec =
    tie.close
    (tie.spec
    (λ c. (records-known c.args.cells.now c.requires).header-within)
    (λ c. read_back (current_day c.args.cells.now) c.result-1.given))
