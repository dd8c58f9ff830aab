-- There is room for the positions, with the new one where its key is absent. Assumes nothing.
use Rattle.std.proofs.Common.{◌≡◌, Bool, Result, Ok, Err, ℕ, ◌+◌, ◌<◌, ◌≤◌, List, [], ◌∷◌, ℤ, length, true, sym, arith}
use Rattle.std.specs.Result.{is_err}
use Rattle.rules.specs.Keyed.{absent_from}
use Rattle.rules.specs.Rows.{position_key}
use Rattle.rules.specs.Layout.{room_of, rows_of, row_at}
use Rattle.rules.specs.Tables.{positions_layout, sound_positions}
use Rattle.rules.specs.declared.Position.{Position}
use Rattle.cells.proofs.SoundCells.{positions-known}
use Rattle.keys.proofs.Clauses.{absent_from-nil, absent_from-new, absent_from-old}
use Rattle.lookup.specs.Lookup.{position_found}
use Rattle.lookup.specs.Found as Found
use Rattle.lookup.specs.Found.{found_told}
use Rattle.lookup.proofs.TableLookup.{position-found, position_absent}

module _ (cells : List ℤ) (new : Position) where
  abbrev rows : List Position
  rows = rows_of positions_layout cells

  abbrev Room : Type 0
  Room = length rows + absent_from position_key rows (new ∷ []) ≤ room_of positions_layout cells

  -- A row is written over.
  pub over_fits : sound_positions cells ≡ true → (row : ℕ) → Found.Row row ≡ position_found cells new.account new.series → Room
  over_fits sound row e =
      omega (
        arith,
        (positions-known cells sound).rows_fit,
        absent_from-old position_key rows new (row_at positions_layout cells row) [] (position-found cells new.account new.series row (sym e)).1,
        absent_from-nil position_key rows,
      )

  -- A row is made.
  pub made_fits : (place : ℕ) → Found.Absent place ≡ position_found cells new.account new.series → length rows < room_of positions_layout cells → Room
  made_fits place e room =
      omega (
        arith,
        room,
        absent_from-new position_key rows new [] (position_absent cells new.account new.series place (sym e)),
        absent_from-nil position_key rows,
      )

  -- Either, by what the lookup found.
  pub fits : sound_positions cells ≡ true → (found : Result ℕ ℕ) (absent : Bool) → absent ≡ is_err found → found_told found ≡ position_found cells new.account new.series
      → (absent ≡ true → length rows < room_of positions_layout cells) → Room
  fits sound (Ok row) absent a e room = over_fits sound row e
  fits sound (Err place) absent a e room = made_fits place e (room a)
