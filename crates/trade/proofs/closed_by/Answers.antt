-- The smaller of the quantity and what is open against it, and nothing for a trade to open.
use Rattle.std.proofs.Common.{◌≡◌, true, sym, ◌∙◌, w64, to_z}
use Rattle.rules.specs.Figures.{is_buy, is_to_close}
use Rattle.rules.specs.Trade.{open_against}
use Rattle.figures.proofs.Tests.{failed, passed}
use Rattle.scan.proofs.ReadBack.{read_back}
use Rattle.trade.proofs.TradeBooked.{opens, closes-all, closes-some, against-buy, against-sell}
use Rattle.trade.proofs.closed_by.Goals.{then-is_buy, else-is_buy}
use Rattle.trade.proofs.closed_by.Goals as goal

pub returns-then-not-is_to_close : goal.returns-then-not-is_to_close
returns-then-not-is_to_close c =
    opens _ _ _ (failed (simp (read_back c.args.t.side c.struct_told-1.given.1.1.1.0.1) at c.is_to_close.ensures) c.if-not-is_to_close.true-raw)

pub returns-then-t-open : goal.returns-then-t-open
returns-then-t-open c =
    let t = c.args.t in
    let p = c.args.p in
    let side = read_back t.side c.struct_told-1.given.1.1.1.0.1 in
    let quantity = read_back t.quantity c.struct_told-1.given.1.1.1.1.0.1 in
    let closes : is_to_close t.side ≡ true = passed (simp side at c.is_to_close.ensures) c.if-not-is_to_close.false-raw in
    let buys : c.is_buy.result ≡ is_buy t.side = simp side at c.is_buy.ensures in
    let against : to_z w64 c.if-is_buy.open-bits ≡ open_against t.side p =
    elim c.if-is_buy.branch [
      | then-is_buy w ↦ w.open-is ∙ read_back p.short w.struct_told-then-is_buy-1.given.1.1.1.0.1 ∙ against-buy t.side p (sym buys ∙ w.if-is_buy.true)
      | else-is_buy w ↦ w.open-is ∙ read_back p.long w.struct_told-else-is_buy-1.given.1.1.0.1 ∙ against-sell t.side p (sym buys ∙ w.if-is_buy.false)
    ] in
    simp (quantity, against) (closes-all _ _ _ closes (simp (quantity, against) at c.if-t-open.true))

pub returns-else-t-open : goal.returns-else-t-open
returns-else-t-open c =
    let t = c.args.t in
    let p = c.args.p in
    let side = read_back t.side c.struct_told-1.given.1.1.1.0.1 in
    let quantity = read_back t.quantity c.struct_told-1.given.1.1.1.1.0.1 in
    let closes : is_to_close t.side ≡ true = passed (simp side at c.is_to_close.ensures) c.if-not-is_to_close.false-raw in
    let buys : c.is_buy.result ≡ is_buy t.side = simp side at c.is_buy.ensures in
    let against : to_z w64 c.if-is_buy.open-bits ≡ open_against t.side p =
    elim c.if-is_buy.branch [
      | then-is_buy w ↦ w.open-is ∙ read_back p.short w.struct_told-then-is_buy-1.given.1.1.1.0.1 ∙ against-buy t.side p (sym buys ∙ w.if-is_buy.true)
      | else-is_buy w ↦ w.open-is ∙ read_back p.long w.struct_told-else-is_buy-1.given.1.1.0.1 ∙ against-sell t.side p (sym buys ∙ w.if-is_buy.false)
    ] in
    simp (quantity, against) (closes-some _ _ _ closes (simp (quantity, against) at c.if-t-open.false))
