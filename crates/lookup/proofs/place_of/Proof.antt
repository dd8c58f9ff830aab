-- `lookup::place_of` meets its contract. The loop's invariant: the halvings of the rows left are at most the fuel, and the place lies among those of the rows left. The measure is
-- the fuel. Assumes nothing.
use Prim.Native.Nat.{ℕ, ◌+◌, ◌*◌, ◌/◌, ◌≤◌, ◌<◌}
use mathlib.Core.Path.{◌≡◌, sym, ◌∙◌}
use mathlib.Core.Bool.{Bool, true, false}
use native.Mathlib.Omega.{arith}
use lib.ListN.{length}
use mir.Facts.{to_z-of_z}
use mir.Syntax.{w64}
use mir.Val.{Fits, to_z, of_z}
use Rattle.rules.specs.Keyed.{Key, below}
use Rattle.rules.specs.Rows.{key_of}
use Rattle.lookup.specs.Lookup.{key_at, row_place}
use Rattle.lookup.specs.Steps.{halvings}
use Rattle.lookup.proofs.Halving.{row_within, place-at-most, place-to, place-past}
use Rattle.lookup.proofs.Steps.{halvings-step, fuel-suffices}
use Rattle.lookup.proofs.place_of.Statement.{statement}
use Rattle.lookup.proofs.place_of.Lts.{then-not-before_row, else-not-before_row}
use Rattle.lookup.proofs.place_of.Tie as tie

abbrev invariant-loop : tie.invariant-loop-left
invariant-loop cells header width count major minor few low₀ left₀ fuel₀ low left fuel =
    let place : ℕ = row_place header width (key_of (to_z w64 major) (to_z w64 minor)) count cells in
    (halvings left ≤ fuel) × (low ≤ place) × (place ≤ low + left) × (low + left ≤ count)

abbrev decreases-loop : tie.decreases-loop-left
decreases-loop cells header width count major minor few low₀ left₀ fuel₀ low left fuel = fuel

-- The key sought, read from its bits, and its place.
module _ (s : tie.Start invariant-loop decreases-loop) where
  abbrev sought : Key
  sought = key_of (to_z w64 (of_z w64 s.args.major)) (to_z w64 (of_z w64 s.args.minor))

  abbrev place : ℕ
  place = row_place s.args.header s.args.width sought s.args.count s.args.cells.now

  -- Of any row: its key lies within the table, and says whether the place lies up to the row or past it. Which row a turn looks at is told by the code alone.
  within : {row : ℕ} → row < s.args.count → s.args.header + row * s.args.width + 1 < length s.args.cells.now
  within {row} h = row_within s.args.header s.args.width s.args.count s.args.cells.now s.requires row h

  cells_fit : {row : ℕ} → row < s.args.count → Fits w64 (row * s.args.width)
  cells_fit h = omega (arith, within h)

  start_fits : {row : ℕ} → row < s.args.count → Fits w64 (s.args.header + row * s.args.width)
  start_fits h = omega (arith, within h)

  to_row : {row : ℕ} {r : Bool} → r ≡ below sought (key_at s.args.cells.now (s.args.header + row * s.args.width)) → row < s.args.count → r ≡ true → place ≤ row
  to_row {row} tested h e = place-to s.args.cells.now s.args.header s.args.width s.args.count sought row h (sym tested ∙ e)

  past_row : {row : ℕ} {r : Bool} → r ≡ below sought (key_at s.args.cells.now (s.args.header + row * s.args.width)) → row < s.args.count → r ≡ false → row < place
  past_row {row} tested h e = place-past s.args.cells.now s.args.header s.args.width s.args.count sought row h s.requires.keys-rise (sym tested ∙ e)

-- This turn, and the halvings of what is left after it, are within the fuel.
enough : (c : tie.In-loop-left invariant-loop decreases-loop) → halvings (c.loop-left.left / 2) < c.loop-left.fuel
enough c = omega (arith, halvings-step c.loop-left.left (omega arith))

loop-holds : tie.Need-loop-left-init invariant-loop decreases-loop
loop-holds c =
    omega (arith, place-at-most c.args.cells.now c.args.header c.args.width c.args.count (sought c), fuel-suffices c.args.count c.requires.few-rows)

sub-fuel : tie.Need-overflow_sub-fuel invariant-loop decreases-loop
sub-fuel c = omega (arith, enough c.before.before)

loop-less : tie.Need-loop-left-smaller invariant-loop decreases-loop
loop-less c = omega (arith, enough c.before.before)

-- After either way through the test.
loop-again : tie.Need-loop-left-preserved invariant-loop decreases-loop
loop-again c =
    let b : tie.After-before_row invariant-loop decreases-loop = c.before in
    let i : tie.In-loop-left invariant-loop decreases-loop = b.before in
    let s : tie.Start invariant-loop decreases-loop = i.before.before in
    elim c.if-not-before_row.branch [
      | then-not-before_row w ↦ omega (arith, past_row s b.before_row.ensures (omega arith) w.if-not-before_row.true, w.low-is, i.loop-left.invariant, enough i)
      | else-not-before_row w ↦ omega (arith, to_row s b.before_row.ensures (omega arith) w.if-not-before_row.false, w.low-is, i.loop-left.invariant, enough i)
    ]

-- Nothing is left.
module _ (c : tie.After-loop-left invariant-loop decreases-loop) where
  abbrev begun : tie.Start invariant-loop decreases-loop
  begun = c.before.before

  none_left : c.loop-left.left ≡ 0
  none_left = omega (arith, c.loop-left-test.false)

  placed : c.loop-left.low ≡ row_place begun.args.header begun.args.width (key_of begun.args.major begun.args.minor) begun.args.count begun.args.cells.now
  placed =
      let e : c.loop-left.low ≡ place begun = omega (arith, none_left, c.loop-left.invariant) in
      simp (to_z-of_z begun.ranges.major, to_z-of_z begun.ranges.minor) at e

pub place_of_spec : {M : Type 1} → statement M
place_of_spec =
    tie.close
    (tie.spec
    invariant-loop
    decreases-loop
    loop-holds
    (λ c. omega arith)
    (λ c. omega arith)
    (λ c. omega arith)
    (λ c. cells_fit c.before.before (omega arith))
    (λ c. start_fits c.before.before (omega arith))
    (λ c κs. within c.before.before (omega arith))
    sub-fuel
    loop-less
    loop-again
    placed)
