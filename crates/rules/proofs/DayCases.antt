-- What the rules say of the day of booking and of the reporting list (document 02, K8), by computation on the smallest tables that show it: which rows take which day, when a day moves, when tables
-- are sound, which records are listed, and the line of a day. An edit of a definition that goes wrong there is refused here. Assumes nothing.
use Prim.Native.Nat.{ℕ}
use mathlib.Core.Path.{◌≡◌, refl}
use mathlib.Core.Bool.{true}
use mathlib.Core.List.{List, [], ◌∷◌, ◌++◌, map}
use mathlib.Core.Option.{none, some}
use lib.IntN.{ℤ, pos, neg_ℤ}
use Rattle.rules.specs.Request.{Request, separate, lineage, give_up, new_day}
use Rattle.rules.specs.Handle.{Answer, handle, answered_by}
use Rattle.rules.specs.Line.{line_of}
use Rattle.rules.specs.Reader.{request_of}
use Rattle.rules.specs.Call.{Call, one, trades, replay, reportable, handle_call}
use Rattle.rules.specs.Tables.{Tables, tables_of}
use Rattle.rules.specs.Touching.{calls_touch}
use Rattle.rules.specs.SmallTables.{empty_tables, buy, buy_figures, run_of, records_after}
use Rattle.rules.specs.declared.Record.{Record}
use Rattle.rules.specs.declared.Step.TheVariants.{Open}
use Rattle.rules.specs.declared.Reply.{Reply}
use Rattle.rules.specs.declared.Reply.TheVariants.{Booked, Refused, BadLine, LineRefused, Listed}
use Rattle.rules.proofs.Computed.{Computed}

-- Room for eight records, two positions and one process.
abbrev small : Tables
small = empty_tables 113 14 9

-- ---- the day of a row

-- Trade 7 on day 0, day 3, trade 8 and the separation of trade 7, whose status changes: suffix, status and day of each row.
abbrev over_two_days : List Request
over_two_days = buy (pos 7) (pos 1) ∷ new_day (pos 3) ∷ buy (pos 8) (pos 1) ∷ separate (pos 7) (pos 0) (pos 1) (pos 1) (pos 60 ∷ pos 40 ∷ []) ∷ []

pub rows-take-the-header's-day :
    map (λ (r : Record). r.id ∷ r.suffix ∷ r.status ∷ r.day ∷ []) (records_after small over_two_days)
    ≡ (pos 7 ∷ pos 0 ∷ pos 1 ∷ pos 0 ∷ [])
    ∷ (pos 7 ∷ pos 1 ∷ pos 2 ∷ pos 3 ∷ [])
    ∷ (pos 7 ∷ pos 2 ∷ pos 0 ∷ pos 3 ∷ [])
    ∷ (pos 7 ∷ pos 3 ∷ pos 0 ∷ pos 3 ∷ [])
    ∷ (pos 8 ∷ pos 0 ∷ pos 0 ∷ pos 3 ∷ [])
    ∷ []
unfolding Computed
rows-take-the-header's-day = refl

-- ---- moving the day

-- "the same or an earlier day, or one outside 1 to 99,999, is refused 3"
abbrev days_from5 : List ℤ → List Reply
days_from5 days = map (λ (d : ℤ). (handle (tables_of (pos 0 ∷ pos 5 ∷ []) []) (new_day d)).reply) days

pub forward-only :
    days_from5 (pos 6 ∷ pos 99999 ∷ pos 5 ∷ pos 4 ∷ pos 0 ∷ neg_ℤ (pos 1) ∷ pos 100000 ∷ [])
    ≡ Booked (pos 0) (pos 0) ∷ Booked (pos 0) (pos 0) ∷ Refused (pos 3) (pos 0) ∷ Refused (pos 3) (pos 0) ∷ Refused (pos 3) (pos 0) ∷ Refused (pos 3) (pos 0) ∷ Refused (pos 3) (pos 0) ∷ []
unfolding Computed
forward-only = refl

-- Cell 1 alone changes, and the positions, which are not sound here, are not looked at.
pub cell-1-alone : handle (tables_of (pos 0 ∷ pos 5 ∷ pos 8 ∷ []) []) (new_day (pos 6)) ≡ answered_by (Booked (pos 0) (pos 0)) (tables_of (pos 0 ∷ pos 6 ∷ pos 8 ∷ []) [])
unfolding Computed
cell-1-alone = refl

pub unsound-records-first : (handle (tables_of (pos 0 ∷ []) []) (new_day (pos 0))).reply ≡ Refused (pos 1) (pos 0)
unfolding Computed
unsound-records-first = refl

-- ---- sound tables

-- "two lone 0s now refuse a trade 1; records 0, 0 refuse it 14"
pub header-of-two-cells :
    map (λ (records : List ℤ). (handle (tables_of records (pos 0 ∷ [])) (buy (pos 7) (pos 1))).reply) ((pos 0 ∷ []) ∷ (pos 0 ∷ pos 0 ∷ []) ∷ [])
    ≡ Refused (pos 1) (pos 0) ∷ Refused (pos 14) (pos 0) ∷ []
unfolding Computed
header-of-two-cells = refl

-- The lineage of a table's only record, booked on a day, by the header's day: "a header day from 0 to 99,999 and row days from 0 to it".
abbrev booked_on : (header row : ℤ) → Reply
booked_on header row =
    (handle (tables_of
    (pos 1 ∷ header ∷ pos 7 ∷ pos 0 ∷ pos 0 ∷ pos 0 ∷ pos 0 ∷ pos 1 ∷ pos 1 ∷ pos 1 ∷ pos 100 ∷ pos 5 ∷ pos 100 ∷ pos 0 ∷ pos 0 ∷ row ∷ []) []) (lineage (pos 8) (pos 0))).reply

pub days-in-range :
    booked_on (pos 5) (pos 5) ∷ booked_on (pos 5) (pos 0) ∷ booked_on (pos 99999) (pos 99999) ∷ booked_on (pos 5) (pos 6) ∷ booked_on (pos 5) (neg_ℤ (pos 1)) ∷ booked_on (pos 100000) (pos 5)
    ∷ booked_on (neg_ℤ (pos 1)) (neg_ℤ (pos 1)) ∷ []
    ≡ Refused (pos 5) (pos 0) ∷ Refused (pos 5) (pos 0) ∷ Refused (pos 5) (pos 0) ∷ Refused (pos 1) (pos 0) ∷ Refused (pos 1) (pos 0) ∷ Refused (pos 1) (pos 0) ∷ Refused (pos 1) (pos 0) ∷ []
unfolding Computed
days-in-range = refl

-- ---- the list

abbrev list_after : List Request → ℕ → Answer
list_after requests cells = handle_call (run_of small requests).tables (reportable cells)

abbrev listed : List Request → List ℤ
listed requests = (list_after requests 16).output

-- On one day: the parts of a separated trade, and neither the trade, which was adjusted, nor its inverse, whose parent is of the same day.
pub same-day-inverse-not-listed :
    listed (buy (pos 7) (pos 1) ∷ separate (pos 7) (pos 0) (pos 1) (pos 1) (pos 60 ∷ pos 40 ∷ []) ∷ []) ≡ pos 7 ∷ pos 2 ∷ pos 7 ∷ pos 3 ∷ []
unfolding Computed
same-day-inverse-not-listed = refl

-- On a later day the inverse is listed, its parent being of an earlier day; rows of that day are not.
pub later-inverse-listed : listed over_two_days ≡ pos 7 ∷ pos 1 ∷ pos 7 ∷ pos 2 ∷ pos 7 ∷ pos 3 ∷ pos 8 ∷ pos 0 ∷ []
unfolding Computed
later-inverse-listed = refl

-- "Status 3 counts as adjustable (house)."
pub under-give-up-listed : listed (buy (pos 7) (pos 1) ∷ give_up Open (pos 9) (pos 7) (pos 0) (pos 1) (pos 2) (pos 1) ∷ []) ≡ pos 7 ∷ pos 0 ∷ []
unfolding Computed
under-give-up-listed = refl

-- A new day has nothing to report.
pub new-day-lists-nothing : listed (buy (pos 7) (pos 1) ∷ new_day (pos 1) ∷ []) ≡ []
unfolding Computed
new-day-lists-nothing = refl

-- "the answer their number"; "a short slice 14", of two cells a record.
pub number-and-room :
    (list_after over_two_days 8).reply ∷ (list_after over_two_days 7).reply ∷ [] ≡ Listed (pos 4) ∷ Refused (pos 14) (pos 0) ∷ []
unfolding Computed
number-and-room = refl

-- An inverse of suffix 1 or 0 and parent 0 as the only record, of the current day.
abbrev inverse_alone : (suffix : ℤ) → ℕ → Answer
inverse_alone suffix cells =
    handle_call (tables_of (pos 1 ∷ pos 5 ∷ pos 7 ∷ suffix ∷ pos 0 ∷ pos 4 ∷ pos 2 ∷ pos 1 ∷ pos 1 ∷ pos 1 ∷ neg_ℤ (pos 100) ∷ pos 5 ∷ pos 0 ∷ pos 0 ∷ pos 0 ∷ pos 5 ∷ []) []) (reportable cells)

-- "A current-day inverse without its parent row is refused 5", before 14; one with suffix 0 is its own parent, of the same day.
pub parent-missing : (inverse_alone (pos 1) 0).reply ∷ (inverse_alone (pos 0) 0).reply ∷ [] ≡ Refused (pos 5) (pos 0) ∷ Listed (pos 0) ∷ []
unfolding Computed
parent-missing = refl

-- ---- touching

-- A new day and the list "touch everything".
pub days-touch-everything :
    map (calls_touch (one (new_day (pos 1)))) (one (buy (pos 7) (pos 1)) ∷ one (lineage (pos 7) (pos 0)) ∷ one (new_day (pos 2)) ∷ trades [] 0 ∷ reportable 0 ∷ [])
    ≡ true ∷ true ∷ true ∷ true ∷ true ∷ []
unfolding Computed
days-touch-everything = refl

pub list-touches-everything :
    map (λ (c : Call). calls_touch c (reportable 0)) (one (buy (pos 7) (pos 1)) ∷ one (lineage (pos 7) (pos 0)) ∷ trades (buy_figures (pos 7) (pos 1)) 1 ∷ reportable 0 ∷ [])
    ≡ true ∷ true ∷ true ∷ true ∷ []
unfolding Computed
list-touches-everything = refl

pub text-with-a-day-touches-everything : calls_touch (replay (line_of (new_day (pos 1)))) (one (lineage (pos 7) (pos 0))) ≡ true
unfolding Computed
text-with-a-day-touches-everything = refl

-- ---- the line of a day

-- "a line D day": D, a tab, 12, a newline.
pub line-of-a-day : line_of (new_day (pos 12)) ≡ 68 ∷ 9 ∷ 49 ∷ 50 ∷ 10 ∷ []
unfolding Computed
line-of-a-day = refl

-- "its range alone is test 3 there": 12 is read; 0, 100000 and two figures are not.
pub days-read :
    request_of (68 ∷ 9 ∷ 49 ∷ 50 ∷ 10 ∷ []) ∷ request_of (68 ∷ 9 ∷ 48 ∷ 10 ∷ []) ∷ request_of (68 ∷ 9 ∷ 49 ∷ 48 ∷ 48 ∷ 48 ∷ 48 ∷ 48 ∷ 10 ∷ []) ∷ request_of (68 ∷ 9 ∷ 49 ∷ 9 ∷ 50 ∷ 10 ∷ []) ∷ []
    ≡ some (new_day (pos 12)) ∷ none ∷ none ∷ none ∷ []
unfolding Computed
days-read = refl

-- "a D line with the same or an earlier day is refused 3"; one out of range is bad.
pub same-day-line-refused : (handle_call small (replay (line_of (new_day (pos 2)) ++ line_of (new_day (pos 2))))).reply ≡ LineRefused (pos 2) (pos 3) (pos 0)
unfolding Computed
same-day-line-refused = refl

pub day-0-line-bad : (handle_call small (replay (68 ∷ 9 ∷ 48 ∷ 10 ∷ []))).reply ≡ BadLine (pos 1)
unfolding Computed
day-0-line-bad = refl
