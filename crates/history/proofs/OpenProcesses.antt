-- How many processes that are pending or claimed name a record (`open_for`): what a put changes in that number, where the rows rise by their keys; a row that does is counted; and where
-- the number is 1, just one does. By induction on the rows. Assumes nothing.
use Prim.Native.Nat.{ℕ, zero, suc, ◌+◌, ◌≤◌}
use mathlib.Core.Path.{◌≡◌, refl, sym, ◌∙◌, ap}
use mathlib.Core.Bool.{true, false, cond}
use mathlib.Core.List.{List, [], ◌∷◌}
use mathlib.Core.Logic.{◌⊎◌, inl, inr}
use mathlib.Core.Option.{Option, none, some}
use lib.ListN.{get_elem?}
use native.Mathlib.Omega.{arith}
use Rattle.rules.specs.Keyed.{Key, rising, find, upsert}
use Rattle.rules.specs.ProcessRows.{process_key}
use Rattle.rules.specs.declared.ProcessRow.{ProcessRow}
use Rattle.keys.proofs.Split.{split, clash, none-some, some_inj, cond-true, cond-false}
use Rattle.keys.proofs.KeyOrder.{same-sym, Way, lower, level, upper, way}
use Rattle.keys.proofs.Clauses.{find-nil, find-here, find-there, upsert-nil, upsert-lower, upsert-level, upsert-upper}
use Rattle.keys.proofs.Rising.{below_all-intro, below_all-lower, rising-head, rising-tail, find-low}
use Rattle.history.specs.UnderGiveUp.{is_open_for, open_for, JustOne}

-- One for a row that names the record, none for another and where there is no row.
abbrev pub one_for : Key → ProcessRow → ℕ
one_for k p = cond (is_open_for k p) 1 0

abbrev pub found_for : Key → Option ProcessRow → ℕ
found_for k none = 0
found_for k (some p) = one_for k p

pub open_for-nil : (k : Key) → open_for k [] ≡ 0
unfolding open_for
open_for-nil k = refl

open_for-cons : (k : Key) (p : ProcessRow) (rest : List ProcessRow) → open_for k (p ∷ rest) ≡ one_for k p + open_for k rest
unfolding open_for
open_for-cons k p rest = refl

-- ---- puts

-- The row of that key, where there is one, is counted no more, and the new one is.
pub open_for-put : (k : Key) (new : ProcessRow) (rows : List ProcessRow) → rising process_key rows ≡ true →
    open_for k (upsert process_key new rows) + found_for k (find process_key (process_key new) rows) ≡ open_for k rows + one_for k new
open_for-put k new [] h =
    let f : found_for k (find process_key (process_key new) []) ≡ 0 = ap (found_for k) (find-nil process_key (process_key new)) in
    rw (upsert-nil process_key new) (omega (arith, f, open_for-cons k new [], open_for-nil k))
open_for-put k new (r ∷ rest) h = go (open_for-put k new rest (rising-tail process_key r rest h)) (way (process_key new) (process_key r))
  where
    go : open_for k (upsert process_key new rest) + found_for k (find process_key (process_key new) rest) ≡ open_for k rest + one_for k new → Way (process_key new) (process_key r) →
        open_for k (upsert process_key new (r ∷ rest)) + found_for k (find process_key (process_key new) (r ∷ rest)) ≡ open_for k (r ∷ rest) + one_for k new
    go again (lower b _ _) =
        let f : found_for k (find process_key (process_key new) (r ∷ rest)) ≡ 0 =
        ap (found_for k)
        (find-low process_key (process_key new) (r ∷ rest)
        (below_all-intro process_key (process_key new) r rest b (below_all-lower process_key (process_key new) (process_key r) rest b (rising-head process_key r rest h)))) in
        rw (upsert-lower process_key new r rest b) (omega (arith, f, open_for-cons k new (r ∷ rest)))
    go again (level e s _ _) =
        let f : found_for k (find process_key (process_key new) (r ∷ rest)) ≡ one_for k r =
        ap (found_for k) (find-here process_key (process_key new) r rest (same-sym (process_key r) (process_key new) ∙ s)) in
        rw (upsert-level process_key new r rest s) (omega (arith, f, open_for-cons k new rest, open_for-cons k r rest))
    go again (upper a s b) =
        let f : found_for k (find process_key (process_key new) (r ∷ rest)) ≡ found_for k (find process_key (process_key new) rest) =
        ap (found_for k) (find-there process_key (process_key new) r rest (same-sym (process_key r) (process_key new) ∙ s)) in
        rw (upsert-upper process_key new r rest b s) (omega (arith, f, open_for-cons k r (upsert process_key new rest), open_for-cons k r rest))

-- ---- rows by their places

-- A row that names the record is counted.
pub counted : (k : Key) (rows : List ProcessRow) (at : ℕ) (p : ProcessRow) → get_elem? rows at ≡ some p → is_open_for k p ≡ true → 1 ≤ open_for k rows
counted k [] at p e h = none-some refl e
counted k (r ∷ rest) zero p e h =
    let o : one_for k r ≡ 1 = cond-true 1 0 (ap (is_open_for k) (some_inj refl e) ∙ h) in
    omega (arith, open_for-cons k r rest, o)
counted k (r ∷ rest) (suc at) p e h = omega (arith, open_for-cons k r rest, counted k rest at p e h)

-- The first row names the record, and no other does.
first-only : (k : Key) (r : ProcessRow) (rest : List ProcessRow) → is_open_for k r ≡ true → open_for k rest ≡ 0 → JustOne k (r ∷ rest)
first-only k r rest h n = record { place = 0; process = r; stands = refl; names = h; only = λ other p e o. go other p e o }
  where
    go : (other : ℕ) (p : ProcessRow) → get_elem? (r ∷ rest) other ≡ some p → is_open_for k p ≡ true → other ≡ 0
    go zero p e o = refl
    go (suc other) p e o = absurd (omega (arith, n, counted k rest other p e o))

-- The first row does not, and of the others just one does.
later-only : (k : Key) (r : ProcessRow) (rest : List ProcessRow) → is_open_for k r ≡ false → JustOne k rest → JustOne k (r ∷ rest)
later-only k r rest h one = record { place = suc one.place; process = one.process; stands = one.stands; names = one.names; only = λ other p e o. go other p e o }
  where
    go : (other : ℕ) (p : ProcessRow) → get_elem? (r ∷ rest) other ≡ some p → is_open_for k p ≡ true → other ≡ suc one.place
    go zero p e o = clash (ap (is_open_for k) (some_inj refl e) ∙ o) h
    go (suc other) p e o = ap suc (one.only other p e o)

pub just-one : (k : Key) (rows : List ProcessRow) → open_for k rows ≡ 1 → JustOne k rows
just-one k [] n = let z : ◌≡◌ {A = ℕ} 0 1 = sym (open_for-nil k) ∙ n in absurd (omega arith)
just-one k (r ∷ rest) n = go (λ m. just-one k rest m) (split (is_open_for k r))
  where
    sum : one_for k r + open_for k rest ≡ 1
    sum = sym (open_for-cons k r rest) ∙ n

    go : (open_for k rest ≡ 1 → JustOne k rest) → (is_open_for k r ≡ true) ⊎ (is_open_for k r ≡ false) → JustOne k (r ∷ rest)
    go again (inl h) = let o : one_for k r ≡ 1 = cond-true 1 0 h in first-only k r rest h (omega (arith, sum, o))
    go again (inr h) = let o : one_for k r ≡ 0 = cond-false 1 0 h in later-only k r rest h (again (omega (arith, sum, o)))
