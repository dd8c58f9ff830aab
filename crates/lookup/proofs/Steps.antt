-- The halvings of so many rows: one, and those of the half; at most n of fewer than 2 ^ n rows. So at most 13 of the rows of sound records, and at most 11 of those of the other tables. By induction on the
-- halvings. Assumes nothing.
use Prim.Native.Nat.{ℕ, zero, suc, ◌/◌, ◌^◌, ◌≤◌, ◌<◌}
use mathlib.Core.Path.{◌≡◌, refl, ap}
use mathlib.Core.Bool.{Bool, true}
use mathlib.Core.List.{List}
use native.Mathlib.Nat.{two-pow-succ}
use native.Mathlib.Omega.{arith}
use lib.IntN.{ℤ, nat_abs}
use Rattle.rules.specs.Keyed.{Key}
use Rattle.rules.specs.Layout.{Layout, count_of}
use Rattle.rules.specs.Tables.{sound_records, sound_positions, sound_processes}
use Rattle.cells.specs.SoundTable.{SoundTable}
use Rattle.cells.proofs.Count.{room_most, length-rows_of}
use Rattle.cells.proofs.SoundCells.{record-rows-sound, records-known, positions-known, processes-known}
use Rattle.lookup.specs.Lookup.{most_rows}
use Rattle.lookup.specs.Steps.{halvings_up_to, halvings}

-- To allow for more halvings than rows changes nothing.
up_to : (m n rows : ℕ) → rows ≤ m → rows ≤ n → halvings_up_to m rows ≡ halvings_up_to n rows
unfolding halvings_up_to
up_to zero zero zero h g = refl
up_to zero (suc n) zero h g = refl
up_to (suc m) zero zero h g = refl
up_to (suc m) (suc n) zero h g = refl
up_to zero n (suc rows) h g = absurd (omega arith)
up_to (suc m) zero (suc rows) h g = absurd (omega arith)
up_to (suc m) (suc n) (suc rows) h g = ap suc (up_to m n (suc rows / 2) (omega arith) (omega arith))

pub halvings-none : halvings 0 ≡ 0
unfolding halvings halvings_up_to
halvings-none = refl

pub halvings-step : (rows : ℕ) → 0 < rows → halvings rows ≡ suc (halvings (rows / 2))
unfolding halvings halvings_up_to
halvings-step zero h = absurd (omega arith)
halvings-step (suc rows) h = ap suc (up_to rows (suc rows / 2) (suc rows / 2) (omega arith) (omega arith))

up-to-most : (most rows : ℕ) → halvings_up_to most rows ≤ most
unfolding halvings_up_to
up-to-most zero rows = omega arith
up-to-most (suc most) zero = omega arith
up-to-most (suc most) (suc rows) = omega (arith, up-to-most most (suc rows / 2))

pub halvings-to-rows : (rows : ℕ) → halvings rows ≤ rows
unfolding halvings
halvings-to-rows rows = up-to-most rows rows

-- At most n halvings of fewer than 2 ^ n rows,
pub halvings-within : (n rows : ℕ) → rows < 2 ^ n → halvings rows ≤ n
halvings-within zero zero h = omega (arith, halvings-none)
halvings-within zero (suc rows) h = absurd (omega arith)
halvings-within (suc n) zero h = omega (arith, halvings-none)
halvings-within (suc n) (suc rows) h = omega (arith, halvings-step (suc rows) (omega arith), halvings-within n (suc rows / 2) (omega (arith, two-pow-succ n)))

-- and no fewer: there are not as many rows as 2 ^ n, n the halvings.
below_power : (most rows : ℕ) → rows ≤ most → rows < 2 ^ halvings_up_to most rows
unfolding halvings_up_to
below_power zero zero h = omega arith
below_power zero (suc rows) h = absurd (omega arith)
below_power (suc most) zero h = omega arith
below_power (suc most) (suc rows) h = omega (arith, two-pow-succ (halvings_up_to most (suc rows / 2)), below_power most (suc rows / 2) (omega arith))

pub within-halvings : (rows : ℕ) → rows < 2 ^ halvings rows
unfolding halvings
within-halvings rows = below_power rows rows (omega arith)

-- A search among the first rows of a table takes no more steps than one among all.
pub halvings-of-fewer : (rows all : ℕ) → rows ≤ all → halvings rows ≤ halvings all
halvings-of-fewer rows all h = halvings-within (halvings all) rows (omega (arith, within-halvings all))

-- ---- at most 13

-- Of as many rows as a search may be asked for: its fuel suffices.
pub fuel-suffices : (rows : ℕ) → rows ≤ most_rows → halvings rows ≤ 13
fuel-suffices rows h = omega (arith, halvings-within 13 rows (omega arith))

-- No sound table has more rows than its layout has room for.
rows-most : {A : Type 0} (l : Layout A) (key : A → Key) (sound_row : A → Bool) (cells : List ℤ) → SoundTable l key sound_row cells → nat_abs (count_of cells) ≤ l.most
rows-most l key sound_row cells table = omega (arith, table.rows_fit, room_most l cells, length-rows_of l cells)

-- "each search in at most 13 steps": of a records table that passes test 1, with as many rows as its cell 0 says.
pub records-in-thirteen : (cells : List ℤ) → sound_records cells ≡ true → halvings (nat_abs (count_of cells)) ≤ 13
records-in-thirteen cells sound = fuel-suffices (nat_abs (count_of cells)) (rows-most _ _ _ cells (records-known cells (record-rows-sound cells sound)))

-- Of positions and processes, which have room for at most 1,024 rows.
in-eleven : (rows : ℕ) → rows ≤ 1024 → halvings rows ≤ 11
in-eleven rows h = omega (arith, halvings-within 11 rows (omega arith))

pub positions-in-eleven : (cells : List ℤ) → sound_positions cells ≡ true → halvings (nat_abs (count_of cells)) ≤ 11
positions-in-eleven cells sound = in-eleven (nat_abs (count_of cells)) (rows-most _ _ _ cells (positions-known cells sound))

pub processes-in-eleven : (cells : List ℤ) → sound_processes cells ≡ true → halvings (nat_abs (count_of cells)) ≤ 11
processes-in-eleven cells sound = in-eleven (nat_abs (count_of cells)) (rows-most _ _ _ cells (processes-known cells sound))

pub halvings-of-full-tables : (halvings 4096 ≡ 13) × (halvings 4095 ≡ 12) × (halvings 1024 ≡ 11)
unfolding halvings halvings_up_to
halvings-of-full-tables = (refl, refl, refl)
