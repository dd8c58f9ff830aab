-- `tables::new_rows::write_rows` meets its contract. The loop's invariant: the rows left to write, from here on, come to the part with all of them written.
-- The measure is how many quantities are left. Assumes nothing.
use Prim.Native.Nat.{◌-◌, ◌+◌, ◌<◌}
use native.Mathlib.Omega.{arith}
use mathlib.Core.Path.{◌≡◌, sym, subst}
use lib.IntN.{ℤ, pos, ◌+ℤ◌}
use lib.ListN.{length, get_or}
use mir.Facts.{to_z-of_z}
use mir.Syntax.{w64}
use mir.Val.{SFits, to_z}
use borrow.Author.Rules.{rules}
use Rattle.rules.specs.Tables.{record_cells}
use Rattle.scan.proofs.ReadBack.{read_back}
use Rattle.shifter.specs.Insertion.{replaced}
use Rattle.tables.specs.NewRows.{numbered_as}
use Rattle.tables.proofs.RowsWritten.{WrittenSoFar, written_start, row_fits, suffix-fits, written_next, written-end}
use Rattle.tables.proofs.new_rows.write_rows.Statement.{statement}
use Rattle.tables.proofs.new_rows.write_rows.Tie as tie

abbrev invariant-loop : tie.invariant-loop-at
invariant-loop part₀ place first quantities suffix₀ at₀ part suffix at = WrittenSoFar part₀ place first quantities part (to_z w64 suffix) at

abbrev decreases-loop : tie.decreases-loop-at
decreases-loop part₀ place first quantities suffix₀ at₀ part suffix at = length quantities - at

more : (c : tie.In-loop-at invariant-loop decreases-loop) → c.loop-at.at < length c.args.quantities.now
more c = omega arith

-- The next quantity, and its row.
module _ (c : tie.After-numbered_as invariant-loop decreases-loop) where
  abbrev turn : tie.At-loop-at invariant-loop decreases-loop
  turn = c.before.before.before.before

  abbrev start : tie.Start invariant-loop decreases-loop
  start = turn.before.before

  abbrev suffix : ℤ
  suffix = to_z w64 turn.loop-at.suffix-bits

  abbrev quantity : ℤ
  quantity = get_or start.args.quantities.now turn.loop-at.at (pos 0)

  row : c.numbered_as.result ≡ numbered_as start.args.first suffix quantity
  row = simp (read_back quantity c.quantity-1.given) at c.numbered_as.ensures

  next_fits : SFits w64 (suffix +ℤ pos 1)
  next_fits =
      suffix-fits start.args.part.now start.args.place start.args.first start.args.quantities.now turn.loop-at.part suffix turn.loop-at.at turn.loop-at.invariant
      start.requires.0 (more c.before.before.before) start.requires.2 start.requires.1 start.requires.3

loop-holds : tie.Need-loop-at-init invariant-loop decreases-loop
loop-holds c =
    let s : tie.Start invariant-loop decreases-loop = c.before in
    simp (read_back s.args.first.suffix c.struct_told-1.given.1.0.1)
    (written_start s.args.part.now s.args.place s.args.first s.args.quantities.now)

write-record-requires : tie.Need-write_record-requires invariant-loop decreases-loop
write-record-requires c κs =
    omega (
      arith,
      row_fits (start c).args.part.now (start c).args.place (start c).args.first (start c).args.quantities.now (turn c).loop-at.part (suffix c) (turn c).loop-at.at (turn c).loop-at.invariant
          (start c).requires.0 (more c.before.before.before),
    )

loop-again : tie.Need-loop-at-preserved invariant-loop decreases-loop
loop-again c =
    let a : tie.After-numbered_as invariant-loop decreases-loop = c.before.before in
    let put : c.write_record.new.part ≡ replaced 0 (record_cells (numbered_as (start a).args.first (suffix a) (quantity a))) ((start a).args.place + (turn a).loop-at.at) (turn a).loop-at.part =
    rw (row a) at c.write_record.ensures in
    subst
    (λ (z : ℤ). WrittenSoFar (start a).args.part.now (start a).args.place (start a).args.first (start a).args.quantities.now c.write_record.new.part z ((turn a).loop-at.at + 1))
    (sym (to_z-of_z (next_fits a)))
    (written_next (start a).args.part.now (start a).args.place (start a).args.first (start a).args.quantities.now (turn a).loop-at.part (suffix a) (turn a).loop-at.at (turn a).loop-at.invariant
    (start a).requires.0 (more a.before.before.before) c.write_record.new.part put c.write_record.auto.part)

returns : tie.Need-returns invariant-loop decreases-loop
returns c =
    let l : tie.At-loop-at invariant-loop decreases-loop = c.before in
    let s : tie.Start invariant-loop decreases-loop = l.before.before in
    written-end s.args.part.now s.args.place s.args.first s.args.quantities.now l.loop-at.part (to_z w64 l.loop-at.suffix-bits) l.loop-at.at l.loop-at.invariant c.loop-at-test.false

pub write_rows_spec : {M : Type 1} → statement M
write_rows_spec =
    tie.close
    (tie.spec
    invariant-loop
    decreases-loop
    loop-holds
    (λ c. search rules)
    (λ c. omega arith)
    (λ c. omega (arith, c.requires.0, more c.before.before))
    (λ c κs. search rules)
    write-record-requires
    (λ c. next_fits c.before.before)
    (λ c. omega arith)
    (λ c. omega arith)
    loop-again
    (λ c. c.loop-at.invariant.same_size)
    returns)
