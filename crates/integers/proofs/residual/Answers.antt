-- `integers::residual`: a buy's is what the product is above the value, a sell's what it is below.
use Rattle.std.proofs.Common.{arith}
use Rattle.std.proofs.lemmas.Int.{ints, to_z-of_z}
use Rattle.integers.proofs.AverageLaws.{residual-buy}
use Rattle.integers.proofs.Rounding.{product-fits, above-fits, below-fits, sells}
use Rattle.integers.proofs.residual.Goals as goal

pub overflow_mul-product : goal.overflow_mul-product
overflow_mul-product c = grind (arith, ints, to_z-of_z, product-fits)

pub overflow_sub-result : goal.overflow_sub-result
overflow_sub-result c = grind (arith, ints, to_z-of_z, product-fits, above-fits, below-fits)

pub overflow_sub-result-else-buy : goal.overflow_sub-result-else-buy
overflow_sub-result-else-buy c = grind (arith, ints, to_z-of_z, product-fits, above-fits, below-fits)

pub returns-then-buy : goal.returns-then-buy
returns-then-buy c = grind (arith, ints, to_z-of_z, residual-buy, product-fits, above-fits)

pub returns-else-buy : goal.returns-else-buy
returns-else-buy c = grind (arith, ints, to_z-of_z, sells, product-fits, below-fits)
