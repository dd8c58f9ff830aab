use Rattle.std.proofs.Common.{◌≡◌, ℤ, pos, ◌+ℤ◌, get_or, w64, to_z, of_z, FitsSigned}
use mir.Facts.{to_z-of_z}
use Rattle.scan.proofs.ReadBack.{read_back}
use Rattle.separation.proofs.PartsLeft.{sum-start, sum_fits, sum-next, sum-end}
use Rattle.separation.proofs.sum_of.Goals.{After-part-1}
use Rattle.separation.proofs.sum_of.Goals as goal

-- The next part, read back from its bits, and its sum with the ones before.
module _ (c : After-part-1) where
  abbrev part : ℤ
  part = get_or c.args.parts.now c.loop-part.part-index (pos 0)

  part-read : to_z w64 (of_z w64 part) ≡ part
  part-read = read_back part c.part-1.given

  fits : FitsSigned w64 (to_z w64 c.loop-part.sum-bits +ℤ part)
  fits = sum_fits c.args.parts.now c.loop-part.part-index (to_z w64 c.loop-part.sum-bits) c.loop-part.invariant c.loop-part-test.true c.requires.0

pub loop-part-init : goal.loop-part-init
loop-part-init c = sum-start c.args.parts.now c.requires.1

pub overflow_add-sum : goal.overflow_add-sum
overflow_add-sum c = simp (part-read c) (fits c)

pub loop-part-preserved : goal.loop-part-preserved
loop-part-preserved c =
    simp (part-read c) (simp (to_z-of_z (fits c))
    (sum-next c.args.parts.now c.loop-part.part-index (to_z w64 c.loop-part.sum-bits) c.loop-part.invariant c.loop-part-test.true))

pub returns : goal.returns
returns c = sum-end c.args.parts.now c.loop-part.part-index (to_z w64 c.loop-part.sum-bits) c.loop-part.invariant c.loop-part-test.false
