-- Document 01's worked examples, and those of document 02's batches and give-ups, hold of the rules, by computation: for each row of the table the requests, handed in one after the other from the
-- tables at the start, give just these answers and end in just these cells. Assumes nothing.
use mathlib.Core.Path.{◌≡◌, refl}
use mathlib.Core.List.{map}
use Rattle.rules.proofs.Computed.{Computed}
use Rattle.worked.specs.Examples.{found, stated, examples}
use Rattle.worked.specs.Others.{others}
use Rattle.worked.specs.Batches as Batches
use Rattle.worked.specs.GiveUps.{give_ups}

-- P1 to P11.
pub worked-examples : map found examples ≡ map stated examples
unfolding Computed
worked-examples = refl

-- The other figures, and the slips.
pub other-figures : map found others ≡ map stated others
unfolding Computed
other-figures = refl

-- Batches of trades, with what each writes for the excesses.
pub worked-batches : map Batches.found Batches.batches ≡ map Batches.stated Batches.batches
unfolding Computed
worked-batches = refl

-- Give-ups, in all three tables.
pub worked-give-ups : map found give_ups ≡ map stated give_ups
unfolding Computed
worked-give-ups = refl
