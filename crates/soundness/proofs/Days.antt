-- Days of booking on sound books (document 02, K8): the current day lies in its range and each row's day up to it. So a new row, which has the current day, is within, and so is a record in another
-- status; and a later day keeps every row within. By the laws of ranges, and by induction on the rows. Assumes nothing.
use mathlib.Core.Path.{◌≡◌, sym, subst}
use mathlib.Core.Bool.{true}
use mathlib.Core.List.{List, [], ◌∷◌, map}
use lib.IntN.{ℤ, pos}
use lib.Signed.{lt_z, ◌≤ℤ◌, ◌<ℤ◌, ≤ℤ_refl}
use Rattle.integers.specs.Order.{in_range}
use Rattle.integers.proofs.Linear.{zarith}
use Rattle.integers.proofs.Order.{in_range-true, true-in_range, lt_z-lt}
use Rattle.rules.specs.Figures.{valid_day, last_day}
use Rattle.rules.specs.Keyed.{Key}
use Rattle.rules.specs.Rows.{record_key, with_status, adjusted_record}
use Rattle.rules.specs.Refusal.{all_of}
use Rattle.rules.specs.Tables.{day_within, sound_days}
use Rattle.rules.specs.declared.Record.{Record}
use Rattle.keys.proofs.Split.{and_intro, and_left, and_right}
use Rattle.keys.proofs.Clauses.{all_of-nil, all_of-intro, all_of-head, all_of-tail}
use Rattle.keys.proofs.Lookup.{find-all}
use Rattle.soundness.proofs.NamedRecord.{record_of, Named}

-- ---- the two parts of the test

pub today-range : (today : ℤ) (rows : List Record) → sound_days today rows ≡ true → (pos 0 ≤ℤ today) × (today ≤ℤ pos last_day)
unfolding sound_days
today-range today rows h = in_range-true (pos 0) (pos last_day) today (and_left (in_range (pos 0) (pos last_day) today) (all_of (map (day_within today) rows)) h)

pub rows-within : (today : ℤ) (rows : List Record) → sound_days today rows ≡ true → all_of (map (day_within today) rows) ≡ true
unfolding sound_days
rows-within today rows h = and_right (in_range (pos 0) (pos last_day) today) (all_of (map (day_within today) rows)) h

pub in-days : (today : ℤ) (rows : List Record) → pos 0 ≤ℤ today → today ≤ℤ pos last_day → all_of (map (day_within today) rows) ≡ true → sound_days today rows ≡ true
unfolding sound_days
in-days today rows low high within = and_intro (true-in_range low high) within

-- ---- rows

-- Of the current day, as every new row is.
pub new-within : (today : ℤ) → pos 0 ≤ℤ today → (r : Record) → r.day ≡ today → day_within today r ≡ true
unfolding day_within
new-within today low r e = subst (λ (d : ℤ). in_range (pos 0) today d ≡ true) (sym e) (true-in_range low (≤ℤ_refl today))

-- The named record in another status keeps its day.
pub restated-within : (today : ℤ) (t : List Record) (k : Key) → sound_days today t ≡ true → Named t k → (status : ℤ) → day_within today (with_status status (record_of t k)) ≡ true
unfolding day_within
restated-within today t k h n status = find-all record_key (day_within today) k t (record_of t k) (rows-within today t h) n.stands

pub adjusted-within : (today : ℤ) (t : List Record) (k : Key) → sound_days today t ≡ true → Named t k → day_within today (adjusted_record (record_of t k)) ≡ true
unfolding day_within adjusted_record
adjusted-within today t k h n = find-all record_key (day_within today) k t (record_of t k) (rows-within today t h) n.stands

-- ---- a later day

later-within : (today day : ℤ) → today <ℤ day → (r : Record) → day_within today r ≡ true → day_within day r ≡ true
unfolding day_within
later-within today day later r h =
    let range : (pos 0 ≤ℤ r.day) × (r.day ≤ℤ today) = in_range-true (pos 0) today r.day h in
    let high : r.day ≤ℤ today = range.1 in
    true-in_range range.0 (omega zarith)

all-later-within : (today day : ℤ) → today <ℤ day → (rows : List Record) → all_of (map (day_within today) rows) ≡ true → all_of (map (day_within day) rows) ≡ true
all-later-within today day later [] h = all_of-nil
all-later-within today day later (r ∷ rest) h =
    all_of-intro (day_within day r) (map (day_within day) rest) (later-within today day later r (all_of-head (day_within today r) (map (day_within today) rest) h))
    (all-later-within today day later rest (all_of-tail (day_within today r) (map (day_within today) rest) h))

-- Rows that were sound on one day are sound on a valid later one.
pub days-later : (today day : ℤ) (rows : List Record) → valid_day day ≡ true → lt_z today day ≡ true → sound_days today rows ≡ true → sound_days day rows ≡ true
unfolding valid_day
days-later today day rows valid later h =
    let range : (pos 1 ≤ℤ day) × (day ≤ℤ pos last_day) = in_range-true (pos 1) (pos last_day) day valid in
    let low : pos 1 ≤ℤ day = range.0 in
    in-days day rows (omega zarith) range.1 (all-later-within today day (lt_z-lt today day later) rows (rows-within today rows h))
