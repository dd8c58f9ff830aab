-- Bits differ exactly where the figures do.
use Rattle.std.proofs.Common.{◌≡◌, true, false, ap, w64, of_z}
use borrow.Author.Rules.{sfits_of}
use Rattle.integers.specs.Order.{eq_z}
use Rattle.integers.proofs.Parts.{true-eq_z, false-eq_z}
use Rattle.integers.proofs.Bits.{of_z-inj, eqb-of_z}
use Rattle.rules.specs.NamedRecord.{is_elsewhere}
use Rattle.requests.proofs.is_elsewhere.Goals as goal

pub returns-then-r-account : goal.returns-then-r-account
unfolding is_elsewhere
returns-then-r-account c =
    let r = c.args.r in
    let other : eq_z r.account c.args.account ≡ false = false-eq_z r.account c.args.account (λ e. c.if-r-account.true (ap (of_z w64) e)) in
    simp (eqb-of_z (sfits_of {w = w64} {z = r.account} c.struct_told-1.given.1.1.1.1.1.0.1) c.ranges.account, other)

pub returns-else-r-account : goal.returns-else-r-account
unfolding is_elsewhere
returns-else-r-account c =
    let r = c.args.r in
    let known = c.struct_told-1.given in
    let here : eq_z r.account c.args.account ≡ true
    = true-eq_z r.account c.args.account (of_z-inj (sfits_of {w = w64} {z = r.account} known.1.1.1.1.1.0.1) c.ranges.account c.if-r-account.false) in
    simp (here, eqb-of_z (sfits_of {w = w64} {z = r.series} known.1.1.1.1.1.1.0.1) c.ranges.series)
