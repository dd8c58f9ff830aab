-- `velichundam_trade` meets its contract: `book::trade`'s, in numbers. Each figure is handed on as it came.
-- Assumes nothing.
use mir.Facts.{to_z-of_z}
use borrow.Author.Rules.{rules}
use Rattle.velichundam.proofs.Handed.{handed}
use Rattle.velichundam.proofs.velichundam_trade.Statement.{statement}
use Rattle.velichundam.proofs.velichundam_trade.Tie as tie

trade-requires : tie.Need-trade-requires
trade-requires c κs = search rules

code-of-requires : tie.Need-from-requires
code-of-requires c κs = search rules

same_length : tie.Need-shape_of-records
same_length c = search rules

same-length-2 : tie.Need-shape_of-positions
same-length-2 c = search rules

returns : tie.Need-returns
returns c =
    let s : tie.Start = c.before.before.before.before.before.before in
    handed c.from.ensures (simp (to_z-of_z s.ranges.id, to_z-of_z s.ranges.account, to_z-of_z s.ranges.series, to_z-of_z s.ranges.side, to_z-of_z s.ranges.quantity, to_z-of_z s.ranges.price) at c.trade.ensures)

pub velichundam_trade_spec : {M : Type 1} → statement M
velichundam_trade_spec = tie.close (tie.spec trade-requires code-of-requires same_length same-length-2 returns)
