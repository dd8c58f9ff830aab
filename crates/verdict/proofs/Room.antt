-- The rooms of the two tables as the tests 14 and 15 count them: a position read and moved is absent exactly where its account and series have no row.
-- Assumes nothing.
use Prim.Native.Nat.{◌+◌, ◌≤◌}
use native.Mathlib.Omega.{arith}
use mathlib.Core.Path.{◌≡◌, ap}
use mathlib.Core.Bool.{Bool, true, false, cond}
use mathlib.Core.List.{List, [], ◌∷◌}
use lib.Dec.{ltb}
use lib.IntN.{ℤ}
use lib.ListN.{length}
use borrow.Author.Tests.{le-ltb}
use Rattle.rules.specs.Keyed.{Key, find, is_some, absent_from}
use Rattle.rules.specs.Rows.{key_of, position_key, moved}
use Rattle.rules.specs.Layout.{room_of, rows_of}
use Rattle.rules.specs.Tables.{positions_layout, sound_positions}
use Rattle.rules.specs.declared.Position.{Position}
use Rattle.rules.specs.declared.Movement.{Movement}
use Rattle.cells.proofs.SoundCells.{positions-known}
use Rattle.soundness.proofs.ReadPosition.{read_at, read-key}
use Rattle.verdict.specs.Verdict.{absent_position}

-- The position read at an account and series of a table.
abbrev pub position_read : List ℤ → ℤ → ℤ → Position
position_read ps account series = read_at account series (rows_of positions_layout ps)

module _ (ps : List ℤ) where
  pub absent-moved : (account series : ℤ) (m : Movement) (rest : List Position)
      → absent_from position_key (rows_of positions_layout ps) (moved (position_read ps account series) m ∷ rest)
      ≡ absent_position ps account series + absent_from position_key (rows_of positions_layout ps) rest
  unfolding absent_from absent_position moved
  absent-moved account series m rest =
      ap (λ (k : Key). cond (is_some (find position_key k (rows_of positions_layout ps))) 0 1 + absent_from position_key (rows_of positions_layout ps) rest)
      (read-key account series (rows_of positions_layout ps))

  pub absent-one : (account series : ℤ) (m : Movement)
      → absent_from position_key (rows_of positions_layout ps) (moved (position_read ps account series) m ∷ []) ≡ absent_position ps account series
  unfolding absent_from
  absent-one account series m = omega (arith, absent-moved account series m [])

  pub absent-at-most-one : (account series : ℤ) → absent_position ps account series ≤ 1
  unfolding absent_position
  absent-at-most-one account series = go (is_some (find position_key (key_of account series) (rows_of positions_layout ps)))
    where
      go : (b : Bool) → cond b 0 1 ≤ 1
      go true = omega arith
      go false = omega arith

  -- A sound table has room for no more rows.
  pub room-for-none : sound_positions ps ≡ true → ltb (room_of positions_layout ps) (length (rows_of positions_layout ps) + 0) ≡ false
  room-for-none sound =
      let fit : length (rows_of positions_layout ps) ≤ room_of positions_layout ps = (positions-known ps sound).rows_fit in
      le-ltb (room_of positions_layout ps) (length (rows_of positions_layout ps) + 0) (omega arith)
