-- `requests::in_booked` meets its contract: the amount with the sign of its side, and that times the price, which fits. Assumes nothing.
use Prim.Native.Nat.{◌≤◌}
use mathlib.Core.Path.{◌≡◌, ◌∙◌}
use native.Mathlib.Omega.{arith}
use borrow.Author.Rules.{sfits_of}
use lib.IntN.{nat_abs, ◌*ℤ◌}
use mir.Facts.{to_z-of_z}
use mir.Syntax.{w64}
use mir.Val.{SFits, to_z, of_z}
use Rattle.integers.proofs.Products.{sfits-of-bound}
use Rattle.rules.specs.Figures.{signed}
use Rattle.verdict.proofs.Moves.{signed-small, value-small}
use Rattle.requests.proofs.in_booked.Statement.{statement}
use Rattle.requests.proofs.in_booked.Tie as tie

module _ (c : tie.After-signed-quantity) where
  abbrev s : tie.Start
  s = c.before

  quantity-is : to_z w64 (of_z w64 c.signed-quantity.result) ≡ signed s.args.side s.args.amount
  quantity-is = (let f : SFits w64 c.signed-quantity.result = sfits_of c.signed-quantity.type_inv in to_z-of_z f) ∙ (simp (to_z-of_z s.ranges.side, to_z-of_z s.ranges.amount) at c.signed-quantity.ensures)

  value-fits : SFits w64 (signed s.args.side s.args.amount *ℤ s.args.price)
  value-fits =
      let bound : nat_abs (signed s.args.side s.args.amount *ℤ s.args.price) ≤ 1000000000000000000
      = value-small (signed s.args.side s.args.amount) s.args.price (signed-small s.args.side s.args.amount s.requires.0) s.requires.1 in
      sfits-of-bound (signed s.args.side s.args.amount *ℤ s.args.price) bound (omega arith)

signed-requires : tie.Need-signed-quantity-requires
signed-requires c κs = simp (to_z-of_z c.ranges.amount) c.requires.0

mul-value : tie.Need-overflow_mul-value
mul-value c = simp (quantity-is c, to_z-of_z (s c).ranges.price) (value-fits c)

returns : tie.Need-returns
returns c =
    simp (
      to_z-of_z (s c).ranges.long,
      to_z-of_z (s c).ranges.short,
      quantity-is c,
      to_z-of_z (s c).ranges.price,
      to_z-of_z (value-fits c),
    )

pub in_booked_spec : {M : Type 1} → statement M
in_booked_spec = tie.close (tie.spec signed-requires mul-value returns)
