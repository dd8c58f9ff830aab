-- What an accepted booking tells of the rows that it puts, at the level of cells, and so what is required where a row is inserted or a position put, one after
-- the other. From the facts of the request's kind. Assumes nothing.
use Prim.Native.Nat.{◌+◌, ◌≤◌, ◌<◌}
use native.Mathlib.Omega.{arith}
use mathlib.Core.Path.{◌≡◌, refl}
use mathlib.Core.Bool.{Bool, true}
use mathlib.Core.List.{List, [], ◌∷◌, ◌++◌, map}
use mathlib.Core.Option.{none}
use lib.IntN.{ℤ}
use lib.ListN.{length}
use Rattle.rules.specs.Keyed.{find, absent_from}
use Rattle.rules.specs.Rows.{record_key, position_key, sound_record, sound_position}
use Rattle.rules.specs.Refusal.{Test, all_of, first_refusal}
use Rattle.rules.specs.Plan.{Effects, booking, plan_tests}
use Rattle.rules.specs.Layout.{room_of, rows_of}
use Rattle.rules.specs.Tables.{books_of, records_layout, positions_layout, sound_record_rows, sound_positions, tables_of}
use Rattle.rules.specs.declared.Record.{Record}
use Rattle.rules.specs.declared.Position.{Position}
use Rattle.keys.proofs.Clauses.{all_of-head, all_of-tail}
use Rattle.keys.proofs.Counts.{distinct, has_all, lacks_all}
use Rattle.cells.specs.SoundTable.{SoundRecords, SoundPositions}
use Rattle.cells.proofs.RowCells.{records-lawful, positions-lawful}
use Rattle.cells.proofs.SoundCells.{records-known, positions-known}
use Rattle.soundness.proofs.Accepted.{BookingPassed, booking-passed}
use Rattle.soundness.proofs.BookingFacts.{BookingFacts}
use Rattle.verdict.proofs.Puts.{put_all}
use Rattle.verdict.proofs.Inserts.{left-room, insert-absent, put-room}

-- The rows that are changed, added and moved.
pub record Ready (rs ps : List ℤ) (changed added : List Record) (moves : List Position) : Type 0 where
  pub changed-present : has_all record_key (rows_of records_layout rs) changed ≡ true
  pub changed-sound : all_of (map sound_record changed) ≡ true
  pub added-absent : lacks_all record_key (rows_of records_layout rs) added ≡ true
  pub added-distinct : distinct record_key added ≡ true
  pub added-sound : all_of (map sound_record added) ≡ true
  pub records-room : length (rows_of records_layout rs) + length added ≤ room_of records_layout rs
  pub moves-distinct : distinct position_key moves ≡ true
  pub moves-sound : all_of (map sound_position moves) ≡ true
  pub moves-room : length (rows_of positions_layout ps) + absent_from position_key (rows_of positions_layout ps) moves ≤ room_of positions_layout ps

pub ready : (rs ps : List ℤ) (tests : List Test) (e : Effects) → BookingFacts (books_of (tables_of rs ps)) e
    → first_refusal (plan_tests (books_of (tables_of rs ps)) (booking tests e)) ≡ none → Ready rs ps e.changed e.added e.positions
unfolding books_of
ready rs ps tests e facts accepted =
    let passed : BookingPassed (books_of (tables_of rs ps)) e = booking-passed (books_of (tables_of rs ps)) tests e accepted in
    record {
      changed-present = facts.changed-present;
      changed-sound = facts.changed-sound;
      added-absent = facts.added-absent;
      added-distinct = facts.added-distinct;
      added-sound = facts.added-sound;
      records-room = passed.records-room;
      moves-distinct = facts.positions-distinct;
      moves-sound = passed.positions-sound;
      moves-room = passed.positions-room;
    }

-- What is required where a row is inserted, and where a position is put.
abbrev pub InsertReady : List ℤ → Record → Type 0
InsertReady cells r =
    (sound_record_rows cells ≡ true) × (sound_record r ≡ true) × (find record_key (record_key r) (rows_of records_layout cells) ≡ none)
    × (length (rows_of records_layout cells) < room_of records_layout cells)

abbrev pub PutReady : List ℤ → Position → Type 0
PutReady cells p =
    (sound_positions cells ≡ true) × (sound_position p ≡ true)
    × (length (rows_of positions_layout cells) + absent_from position_key (rows_of positions_layout cells) (p ∷ []) ≤ room_of positions_layout cells)

-- What all have, one has that stands among them.
all-at : {Row : Type 0} (p : Row → Bool) (done : List Row) (x : Row) (rest : List Row) → all_of (map p (done ++ (x ∷ rest))) ≡ true → p x ≡ true
all-at p [] x rest h = all_of-head (p x) (map p rest) h
all-at p (y ∷ done) x rest h = all-at p done x rest (all_of-tail (p y) (map p (done ++ (x ∷ rest))) h)

module _ (rs ps : List ℤ) (changed done rest : List Record) (moves : List Position) (is-ready : Ready rs ps changed (done ++ rest) moves)
    (records-sound : sound_record_rows rs ≡ true) (now : List ℤ) (so_far : now ≡ put_all records_layout record_key rs (changed ++ done)) where
  -- Room for all rows that are left.
  pub rows-left-room : length (rows_of records_layout now) + length rest ≤ room_of records_layout now
  rows-left-room =
      let known : SoundRecords rs = records-known rs records-sound in
      left-room records_layout records-lawful record_key rs changed done rest known.header-within known.rows-rise
      is-ready.changed-present is-ready.added-absent is-ready.added-distinct is-ready.records-room now so_far

  next-row-absent : (x : Record) (more : List Record) → rest ≡ x ∷ more → find record_key (record_key x) (rows_of records_layout now) ≡ none
  next-row-absent x more e =
      let known : SoundRecords rs = records-known rs records-sound in
      insert-absent records_layout records-lawful record_key rs changed done rest known.header-within known.rows-rise
      is-ready.changed-present is-ready.added-absent is-ready.added-distinct is-ready.records-room now so_far x more e

-- The next row.
pub insert-ready : (rs ps : List ℤ) (changed done rest : List Record) (x : Record) (moves : List Position) → Ready rs ps changed (done ++ (x ∷ rest)) moves
    → sound_record_rows rs ≡ true → (now : List ℤ) → now ≡ put_all records_layout record_key rs (changed ++ done) → sound_record_rows now ≡ true → InsertReady now x
insert-ready rs ps changed done rest x moves is-ready records-sound now so_far sound = (
  sound,
  all-at sound_record done x rest is-ready.added-sound,
  next-row-absent rs ps changed done (x ∷ rest) moves is-ready records-sound now so_far x rest refl,
  omega (arith, rows-left-room rs ps changed done (x ∷ rest) moves is-ready records-sound now so_far),
)

module _ (rs ps : List ℤ) (changed added : List Record) (done rest : List Position) (x : Position) (is-ready : Ready rs ps changed added (done ++ (x ∷ rest)))
    (positions-sound : sound_positions ps ≡ true) (now : List ℤ) (so_far : now ≡ put_all positions_layout position_key ps done) where
  pub put-ready : sound_positions now ≡ true → PutReady now x
  put-ready sound =
      let known : SoundPositions ps = positions-known ps positions-sound in (
        sound,
        all-at sound_position done x rest is-ready.moves-sound,
        put-room positions_layout positions-lawful position_key ps done x rest known.header-within known.rows-rise
            is-ready.moves-distinct is-ready.moves-room now so_far,
      )
