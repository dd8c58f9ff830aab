-- `integers::average`: each branch is one of the three ways of rounding.
use Rattle.std.proofs.Common.{arith}
use Rattle.std.proofs.lemmas.Int.{ints, to_z-of_z}
use Rattle.integers.proofs.Rounding.{rounds-up, rounds-down, stays, up_fits, down_fits}
use Rattle.integers.proofs.average.Goals as goal

pub overflow_add-result : goal.overflow_add-result
overflow_add-result c = grind (arith, ints, to_z-of_z, up_fits)

pub overflow_sub-result : goal.overflow_sub-result
overflow_sub-result c = grind (arith, ints, to_z-of_z, down_fits)

pub returns-then-quantity-twice : goal.returns-then-quantity-twice
returns-then-quantity-twice c = grind (arith, ints, to_z-of_z, rounds-up)

pub returns-then-twice-quantity : goal.returns-then-twice-quantity
returns-then-twice-quantity c = grind (arith, ints, to_z-of_z, rounds-down)

pub returns-else-twice-quantity : goal.returns-else-twice-quantity
returns-else-twice-quantity c = grind (arith, ints, to_z-of_z, stays)
