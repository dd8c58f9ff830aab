-- Document 02, K8, the end-of-day reporting list: which records of the current day are reported, and the list that a host asks for.
use Rattle.std.specs.Prelude.{ℕ, ◌*◌, Bool, false, cond, not, ◌&&◌, ◌||◌, List, [], ◌∷◌, map, ltb, ℤ, pos, length}
use Rattle.std.proofs.Math.Option.{Option, none, some}
use Rattle.std.specs.Int.Signed.{lt_z}
use Rattle.integers.specs.Order.{eq_z}
use Rattle.rules.specs.Figures.{inverse}
use Rattle.rules.specs.Keyed.{is_some, find}
use Rattle.rules.specs.Rows.{key_of, record_key}
use Rattle.rules.specs.Refusal.{Test, test, any_of, first_refusal}
use Rattle.rules.specs.Totals.{is_live}
use Rattle.rules.specs.Tables.{Tables, sound_records, books_of}
use Rattle.rules.specs.Handle.{Answer, answer}
use Rattle.rules.specs.declared.Record.{Record}
use Rattle.rules.specs.declared.Reply.TheVariants.{Listed}

-- "a record of the current day"
unfoldable pub is_of_day : (today : ℤ) → Record → Bool
is_of_day today r = eq_z r.day today

-- "it is inverse"
unfoldable pub is_inverse : Record → Bool
is_inverse r = eq_z r.status inverse

-- Its parent among the records: the row of its id with its parent suffix. An inverse with suffix 0 is its own parent.
unfoldable pub parent_of : List Record → Record → Option Record
parent_of records r = find record_key (key_of r.id r.parent) records

-- "its parent was booked on an earlier day"
unfoldable pub is_of_earlier_day : (today : ℤ) → Option Record → Bool
is_of_earlier_day today none = false
is_of_earlier_day today (some p) = lt_z p.day today

-- "By 002 a record of the current day is reported when its status at day end is adjustable, or when it is inverse and its parent was booked on an earlier day. Status 3 counts as adjustable (house)."
unfoldable pub is_reportable : (today : ℤ) → List Record → Record → Bool
is_reportable today records r = is_of_day today r && (is_live r || (is_inverse r && is_of_earlier_day today (parent_of records r)))

-- "A current-day inverse without its parent row"
unfoldable pub lacks_parent : (today : ℤ) → List Record → Record → Bool
lacks_parent today records r = is_of_day today r && (is_inverse r && not (is_some (parent_of records r)))

-- "in table order ..., each reportable record once, and no other": those of these rows, with their parents among `records`
unfoldable pub reportable_among : (today : ℤ) → (records rows : List Record) → List Record
reportable_among today records [] = []
reportable_among today records (r ∷ rest) = cond (is_reportable today records r) (r ∷ reportable_among today records rest) (reportable_among today records rest)

abbrev pub reportable_records : (today : ℤ) → List Record → List Record
reportable_records today records = reportable_among today records records

-- "as id and suffix pairs"
unfoldable pub ids_and_suffixes : List Record → List ℤ
ids_and_suffixes [] = []
ids_and_suffixes (r ∷ rest) = r.id ∷ r.suffix ∷ ids_and_suffixes rest

-- 1; 5: "A current-day inverse without its parent row is refused 5"; 14: "a short slice 14", of which a pair takes two cells
unfoldable pub reportable_tests : Tables → ℕ → List Test
reportable_tests t cells =
    test 1 (not (sound_records t.records))
    ∷ test 5 (any_of (map (lacks_parent (books_of t).day (books_of t).records) (books_of t).records))
    ∷ test 14 (ltb cells (2 * length (reportable_records (books_of t).day (books_of t).records)))
    ∷ []

abbrev pub reportable_refusal : Tables → ℕ → Option Test
reportable_refusal t cells = first_refusal (reportable_tests t cells)

-- The pairs are written to the lent slice, "the answer their number".
unfoldable pub listed_in : Tables → Answer
listed_in t =
    let listed : List Record = reportable_records (books_of t).day (books_of t).records in
    record { reply = Listed (pos (length listed)); output = ids_and_suffixes listed; tables = t }

unfoldable pub handle_reportable : Tables → ℕ → Answer
handle_reportable t cells = answer (reportable_refusal t cells) t (listed_in t)
