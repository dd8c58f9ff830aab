-- Empty tables: they have no rows, are sound, and have the same books where they have the same rooms. Assumes nothing.
use mathlib.Core.Path.{◌≡◌, refl, sym, ◌∙◌, ap}
use mathlib.Core.Bool.{Bool, true}
use mathlib.Core.List.{List, [], map}
use native.Mathlib.Omega.{arith}
use borrow.Author.Tests.{le-leb}
use lib.IntN.{ℤ, pos, nat_abs}
use lib.ListN.{length}
use Rattle.integers.specs.Order.{in_range}
use Rattle.rules.specs.Keyed.{Key, rising}
use Rattle.rules.specs.Rows.{record_key, position_key, sound_record, sound_position}
use Rattle.rules.specs.ProcessRows.{process_number, sound_process}
use Rattle.rules.specs.Refusal.{all_of}
use Rattle.rules.specs.Layout.{Layout, decode, count_of, room_of, rows_of, count_is_sound}
use Rattle.rules.specs.Tables.{Tables, records_layout, positions_layout, processes_layout, sound_table, sound_record_rows, current_day, sound_days, sound_positions, sound_processes, books_of}
use Rattle.keys.proofs.Split.{and_intro}
use Rattle.keys.proofs.Clauses.{all_of-nil, rising-nil}
use Rattle.cells.proofs.Count.{pos-within}
use Rattle.cells.proofs.Sound.{sound-table}
use Rattle.cells.proofs.SoundCells.{records-sound}
use Rattle.soundness.specs.SoundTables.{SoundTables}
use Rattle.history.specs.EmptyTables.{EmptyTable, EmptyTables, SameRoom}

pub no_rows : {Row : Type 0} (l : Layout Row) (cells : List ℤ) → count_of cells ≡ pos 0 → rows_of l cells ≡ []
unfolding rows_of
no_rows l cells h = ap (λ (n : ℤ). decode l.get l.width (nat_abs n) l.header cells) h

empty-sound : {Row : Type 0} (l : Layout Row) (key : Row → Key) (sound_row : Row → Bool) (cells : List ℤ) → EmptyTable l cells → sound_table l key sound_row cells ≡ true
unfolding count_is_sound
empty-sound {Row} l key sound_row cells e =
    let rows : rows_of l cells ≡ [] = no_rows l cells e.no_row in
    let in-room : in_range (pos 0) (pos (room_of l cells)) (count_of cells) ≡ true =
    ap (in_range (pos 0) (pos (room_of l cells))) e.no_row ∙ pos-within 0 (room_of l cells) (omega arith) in
    sound-table l key sound_row cells (and_intro (le-leb l.header (length cells) e.header-within) in-room)
    (ap (rising key) rows ∙ rising-nil key) (ap (λ (r : List Row). all_of (map sound_row r)) rows ∙ all_of-nil)

-- "Empty tables start at day 0"
empty-days : (cells : List ℤ) → count_of cells ≡ pos 0 → current_day cells ≡ pos 0 → sound_days (current_day cells) (rows_of records_layout cells) ≡ true
unfolding sound_days in_range all_of
empty-days cells no_row day = rw (day, no_rows records_layout cells no_row) refl

pub empty-tables-sound : (t : Tables) → EmptyTables t → SoundTables t
unfolding sound_record_rows sound_positions sound_processes
empty-tables-sound t e = record {
  records = records-sound t.records (empty-sound records_layout record_key sound_record t.records e.records) (empty-days t.records e.records.no_row e.day);
  positions = empty-sound positions_layout position_key sound_position t.positions e.positions;
  processes = empty-sound processes_layout process_number sound_process t.processes e.processes;
}

-- No rows in either, and the same rooms.
both-empty : {Row : Type 0} (l : Layout Row) (cells others : List ℤ) → EmptyTable l cells → EmptyTable l others → rows_of l cells ≡ rows_of l others
both-empty l cells others e f = no_rows l cells e.no_row ∙ sym (no_rows l others f.no_row)

pub empty-books : (t u : Tables) → EmptyTables t → EmptyTables u → SameRoom t u → books_of t ≡ books_of u
unfolding books_of
empty-books t u e f room = λ i. record {
  records = both-empty records_layout t.records u.records e.records f.records i;
  positions = both-empty positions_layout t.positions u.positions e.positions f.positions i;
  processes = both-empty processes_layout t.processes u.processes e.processes f.processes i;
  records_room = room.records i;
  positions_room = room.positions i;
  processes_room = room.processes i;
  day = (e.day ∙ sym f.day) i;
}
