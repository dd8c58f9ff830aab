-- The long of a buy, the short of a sell, against the quantity.
use Rattle.std.proofs.Common.{◌≡◌, true, false, sym, ◌∙◌}
use Rattle.rules.specs.Figures.{is_buy}
use Rattle.rules.specs.Transfer.{holds_too_little}
use Rattle.scan.proofs.ReadBack.{read_back}
use Rattle.transfer.proofs.holds_too_little.Goals as goal

pub returns-then-is_buy : goal.returns-then-is_buy
unfolding holds_too_little
returns-then-is_buy c =
    let r = c.args.r in
    let known = c.struct_told-1.given in
    let buys : is_buy r.side ≡ true = sym (simp (read_back r.side known.1.1.1.1.1.1.1.0.1) at c.is_buy.ensures) ∙ c.if-is_buy.true in
    simp (read_back c.args.p.long c.struct_told-then-is_buy-1.given.1.1.0.1, read_back r.quantity known.1.1.1.1.1.1.1.1.0.1, buys)

pub returns-else-is_buy : goal.returns-else-is_buy
unfolding holds_too_little
returns-else-is_buy c =
    let r = c.args.r in
    let known = c.struct_told-1.given in
    let sells : is_buy r.side ≡ false = sym (simp (read_back r.side known.1.1.1.1.1.1.1.0.1) at c.is_buy.ensures) ∙ c.if-is_buy.false in
    simp (read_back c.args.p.short c.struct_told-else-is_buy-1.given.1.1.1.0.1, read_back r.quantity known.1.1.1.1.1.1.1.1.0.1, sells)
