-- A new day (document 02, K8) looks at the records alone and writes cell 1 of them alone, whatever the other tables hold; the reporting list looks at the records alone and writes no table. Their calls
-- are lent no other table, and promise the answer beside others: `day-promised` and `list-promised` say that it is the answer beside any, and so the one that demand 3 speaks of. Assumes nothing.
use Prim.Native.Nat.{ℕ, ◌≤◌}
use mathlib.Core.Path.{◌≡◌, refl, ◌∙◌, ap}
use mathlib.Core.Bool.{true}
use mathlib.Core.List.{List, []}
use mathlib.Core.Option.{Option, none, some}
use lib.IntN.{ℤ, pos}
use lib.ListN.{length}
use Rattle.rules.specs.Refusal.{Test}
use Rattle.rules.specs.Reply.{refused_by}
use Rattle.rules.specs.Request.{new_day}
use Rattle.rules.specs.Books.{view_of, with_day}
use Rattle.rules.specs.Plan.{plan_tests, plan_reply}
use Rattle.rules.specs.Day.{day_plan}
use Rattle.rules.specs.Reportable.{reportable_tests, reportable_refusal, listed_in, handle_reportable}
use Rattle.rules.specs.Layout.{count_of}
use Rattle.rules.specs.Tables.{Tables, all_tables, tables_of, records_layout, sound_records, with_current_day, books_of}
use Rattle.rules.specs.Handle.{answer, answered_by, handle, plan_of, plan_tables, refusals, soundness_tests}
use Rattle.rules.specs.declared.Reply.{Reply}
use Rattle.rules.specs.declared.Reply.TheVariants.{Booked}
use Rattle.soundness.specs.RowsAnswered.{rows_answered}
use Rattle.cells.proofs.SoundCells.{record-rows-sound, records-known}
use Rattle.cells.proofs.DayCells.{day-written-count, day-written-books}
use Rattle.history.specs.Beside.{beside_others}
use Rattle.history.specs.History.{is_accepted}
use Rattle.history.proofs.Accepted.{accepted-reply, moved-on-sound, moved-tables}

-- ---- an accepted day, on any tables

module _ (t : Tables) (day : ℤ) (ok : is_accepted t (new_day day) ≡ true) where
  pub day-records-sound : sound_records t.records ≡ true
  unfolding plan_of day_plan
  day-records-sound = moved-on-sound t (new_day day) _ _ refl ok

  header : records_layout.header ≤ length t.records
  header = (records-known t.records (record-rows-sound t.records day-records-sound)).header-within

  -- Cell 1 of the records is written, and no other cell of any table.
  pub day-tables : (handle t (new_day day)).tables ≡ with_current_day day t
  unfolding plan_of day_plan
  day-tables = moved-tables t (new_day day) _ _ refl ok

  -- Every row and every room stays.
  pub day-books : books_of (handle t (new_day day)).tables ≡ with_day day (books_of t)
  day-books = ap books_of day-tables ∙ day-written-books day t header

  pub day-count : count_of (handle t (new_day day)).tables.records ≡ count_of t.records
  day-count = ap (λ (u : Tables). count_of u.records) day-tables ∙ day-written-count day t.records header

  -- "answers booked", no rows
  pub day-reply : (handle t (new_day day)).reply ≡ Booked (pos 0) (pos 0)
  unfolding plan_of day_plan plan_reply
  day-reply = accepted-reply t (new_day day) ok

-- ---- beside any tables

moved-beside : (t u : Tables) (o : Option Test) (day : ℤ) (reply : Reply) → t.records ≡ u.records →
    answer o t (answered_by reply (with_current_day day t)) ≡ beside_others t (answer o u (answered_by reply (with_current_day day u)))
unfolding answer
moved-beside t u none day reply e = ap (λ (records : List ℤ). answered_by reply (with_current_day day (all_tables records t.positions t.processes))) e
moved-beside t u (some x) day reply e = ap (λ (records : List ℤ). answered_by (refused_by x) (all_tables records t.positions t.processes)) e

-- The whole answer on any tables, by the answer on the records alone.
pub day-promised : (t : Tables) (day : ℤ) → handle t (new_day day) ≡ beside_others t (handle (tables_of t.records []) (new_day day))
unfolding handle plan_of day_plan plan_tables plan_reply plan_tests refusals soundness_tests view_of books_of
day-promised t day = moved-beside t (tables_of t.records []) _ day _ refl

-- ---- the list

listed-stays : (t : Tables) (o : Option Test) → (answer o t (listed_in t)).tables ≡ t
unfolding answer listed_in
listed-stays t none = refl
listed-stays t (some x) = refl

-- It writes no table.
pub list-stays : (t : Tables) (cells : ℕ) → (handle_reportable t cells).tables ≡ t
unfolding handle_reportable
list-stays t cells = listed-stays t (reportable_refusal t cells)

listed-beside : (t : Tables) (o : Option Test) → answer o t (listed_in t) ≡ beside_others t (answer o (tables_of t.records []) (listed_in (tables_of t.records [])))
unfolding answer listed_in books_of
listed-beside t none = refl
listed-beside t (some x) = refl

pub list-promised : (t : Tables) (cells : ℕ) → handle_reportable t cells ≡ beside_others t (handle_reportable (tables_of t.records []) cells)
unfolding handle_reportable reportable_tests books_of
list-promised t cells = listed-beside t _

-- Its answer names no row.
no-row-listed : (t : Tables) (o : Option Test) → rows_answered (answer o t (listed_in t)).reply ≡ pos 0
unfolding answer listed_in refused_by
no-row-listed t none = refl
no-row-listed t (some x) = refl

pub list-adds-none : (t : Tables) (cells : ℕ) → rows_answered (handle_reportable t cells).reply ≡ pos 0
unfolding handle_reportable
list-adds-none t cells = no-row-listed t (reportable_refusal t cells)
