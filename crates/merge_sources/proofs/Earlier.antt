-- What stood earlier in the list of pairs, one place at a time: whether a pair is among the earlier ones, and how often an id is. By the definitions and
-- by induction on the place. Assumes nothing.
use Prim.Native.Nat.{ℕ, zero, suc, ◌+◌, ◌/◌, ◌≤◌, ◌<◌}
use native.Mathlib.Numerals.{add-one}
use native.Mathlib.Omega.{arith}
use mathlib.Core.Path.{◌≡◌, refl, sym, ◌∙◌, ap, ap₂, subst}
use mathlib.Core.Bool.{Bool, true, false, cond, ◌||◌}
use mathlib.Core.List.{List, [], ◌∷◌, ◌++◌, map}
use mathlib.Core.Logic.{◌⊎◌, inl, inr}
use borrow.Author.Tests.{ltb-true, ltb-false}
use lib.Dec.{ltb}
use lib.IntN.{ℤ, pos, ◌+ℤ◌}
use lib.ListN.{length, get_or, take, length-map}
use lib.Seq.{take-suc}
use lib.Signed.{◌≤ℤ◌}
use Rattle.std.specs.List.{filter, count_by}
use Rattle.std.proofs.lemmas.List.{map-append, get_or-take}
use Rattle.std.proofs.lemmas.List.Sums.{length-filter, count_by_more_yes, count_by_more_no}
use Rattle.integers.specs.Order.{eq_z}
use Rattle.integers.proofs.Linear.{zarith, +-lin}
use Rattle.integers.proofs.Parts.{true-eq_z, false-eq_z}
use Rattle.rules.specs.Keyed.{Key, same}
use Rattle.rules.specs.Merge.{pairs_of, is_among, times_in, stood_earlier}
use Rattle.rules.specs.declared.Record.{Record}
use Rattle.keys.proofs.Split.{split, or_left, or_right}
use Rattle.merge_sources.specs.Sources.{sources_at, sources_in}
use Rattle.merge_sources.specs.Pairs.{pair_of, has_id, pair_at, earlier_pairs, earlier_ids, stands_earlier, times_earlier, repeats_from}
use Rattle.merge_sources.proofs.PairList.{pair-count, pair-at}
use Rattle.merge_sources.proofs.SourceList.{map_at}
use Rattle.merge_sources.proofs.Threaded.{threaded, length-threaded, threaded-at}

-- ---- among the earlier pairs

-- The last of a list may as well stand first.
among-last : (k : Key) (earlier : List Key) (e : Key) → is_among k (earlier ++ (e ∷ [])) ≡ (same k e || is_among k earlier)
unfolding is_among
among-last k [] e = refl
among-last k (x ∷ rest) e = rw (among-last k rest e) (swapped (same k x) (same k e) (is_among k rest))
  where
    swapped : (a b c : Bool) → (a || (b || c)) ≡ (b || (a || c))
    swapped true true c = refl
    swapped true false c = refl
    swapped false b c = refl

pub among_none : (k : Key) (pairs : List ℤ) → is_among k (earlier_pairs pairs 0) ≡ false
unfolding is_among earlier_pairs
among_none k pairs = refl

pub among-more : (k : Key) (pairs : List ℤ) (j : ℕ) → is_among k (earlier_pairs pairs (suc j)) ≡ (same k (pair_at pairs j) || is_among k (earlier_pairs pairs j))
unfolding is_among earlier_pairs
among-more k pairs j = refl

pub stands-earlier : (pairs : List ℤ) (i : ℕ) → stands_earlier pairs i ≡ is_among (pair_at pairs i) (earlier_pairs pairs i)
unfolding stands_earlier
stands-earlier pairs i = refl

-- A pair at an earlier place is among them.
pub earlier-among : (pairs : List ℤ) (i j : ℕ) (k : Key) → j < i → same k (pair_at pairs j) ≡ true → is_among k (earlier_pairs pairs i) ≡ true
earlier-among pairs zero j k h s = absurd (omega arith)
earlier-among pairs (suc i) j k h s = among-more k pairs i ∙ go (earlier-among pairs i j k) (split (ltb j i))
  where
    go : (j < i → same k (pair_at pairs j) ≡ true → is_among k (earlier_pairs pairs i) ≡ true) → (ltb j i ≡ true) ⊎ (ltb j i ≡ false) →
        (same k (pair_at pairs i) || is_among k (earlier_pairs pairs i)) ≡ true
    go again (inl t) = or_right (same k (pair_at pairs i)) (again (ltb-true j i t) s)
    go again (inr t) =
        let least : i ≤ j = ltb-false j i t in
        let e : j ≡ i = omega arith in
        or_left (is_among k (earlier_pairs pairs i)) (subst (λ (n : ℕ). same k (pair_at pairs n) ≡ true) e s)

-- ---- how often an id stood earlier

pub times_none : (pairs : List ℤ) (id : ℤ) → times_in (earlier_ids pairs 0) id ≡ pos 0
unfolding times_in earlier_ids
times_none pairs id = refl

pub times_more : (pairs : List ℤ) (j : ℕ) (id : ℤ) → times_in (earlier_ids pairs (suc j)) id ≡ cond (eq_z (pair_at pairs j).major id) (pos 1) (pos 0) +ℤ times_in (earlier_ids pairs j) id
unfolding times_in earlier_ids
times_more pairs j id = refl

pub times-earlier : (pairs : List ℤ) (i : ℕ) → times_earlier pairs i ≡ times_in (earlier_ids pairs i) (pair_at pairs i).major
unfolding times_earlier
times-earlier pairs i = refl

one-or-none : (b : Bool) (s : ℤ) (n : ℕ) → pos 0 ≤ℤ s → s ≤ℤ pos n → (pos 0 ≤ℤ (cond b (pos 1) (pos 0) +ℤ s)) × ((cond b (pos 1) (pos 0) +ℤ s) ≤ℤ pos (suc n))
one-or-none true s n h k = (omega (zarith, +-lin (pos 1) s), omega (zarith, +-lin (pos 1) s))
one-or-none false s n h k = (omega (zarith, +-lin (pos 0) s), omega (zarith, +-lin (pos 0) s))

pub times-range : (pairs : List ℤ) (j : ℕ) (id : ℤ) → (pos 0 ≤ℤ times_in (earlier_ids pairs j) id) × (times_in (earlier_ids pairs j) id ≤ℤ pos j)
times-range pairs zero id = rw (times_none pairs id) (omega zarith, omega zarith)
times-range pairs (suc j) id =
    let again : (pos 0 ≤ℤ times_in (earlier_ids pairs j) id) × (times_in (earlier_ids pairs j) id ≤ℤ pos j) = times-range pairs j id in
    rw (times_more pairs j id) (one-or-none (eq_z (pair_at pairs j).major id) (times_in (earlier_ids pairs j) id) j again.0 again.1)

-- ---- test 9, of each pair in turn

among_earlier : List Key → Key → Bool
among_earlier earlier k = is_among k earlier

repeats-threaded : (earlier ks : List Key) → repeats_from earlier ks ≡ threaded among_earlier (λ (k : Key). k) earlier ks
unfolding repeats_from among_earlier
repeats-threaded earlier [] = refl
repeats-threaded earlier (k ∷ rest) = ap (λ (l : List Bool). is_among k earlier ∷ l) (repeats-threaded (k ∷ earlier) rest)

pub repeat-count : (pairs : List ℤ) → length (repeats_from [] (pairs_of pairs)) ≡ length pairs / 2
repeat-count pairs =
    ap (λ (l : List Bool). length l) (repeats-threaded [] (pairs_of pairs))
    ∙ length-threaded among_earlier (λ (k : Key). k) [] (pairs_of pairs) ∙ pair-count pairs

pub repeat-at : (pairs : List ℤ) (i : ℕ) → i < length pairs / 2 → get_or (repeats_from [] (pairs_of pairs)) i false ≡ stands_earlier pairs i
unfolding stands_earlier earlier_pairs among_earlier
repeat-at pairs i h =
    let other : Key = pair_at pairs i in
    ap (λ (l : List Bool). get_or l i false) (repeats-threaded [] (pairs_of pairs))
    ∙ threaded-at among_earlier (λ (k : Key). k) (pairs_of pairs) (earlier_pairs pairs) i other false
    (λ j k. ap (λ (e : Key). e ∷ earlier_pairs pairs j) (sym (pair-at pairs j other (omega (arith, pair-count pairs))))) (omega (arith, pair-count pairs))
    ∙ ap (λ (k : Key). is_among k (earlier_pairs pairs i)) (pair-at pairs i other h)

-- ---- the list as arrays of two

module _ (pairs : List ℤ) (list : List (List ℤ)) (is : map pair_of list ≡ pairs_of pairs) where
  listed-count : length list ≡ length pairs / 2
  listed-count = sym (length-map list pair_of) ∙ ap (λ (l : List Key). length l) is ∙ pair-count pairs

  pub listed-at : (i : ℕ) → i < length list → pair_of (get_or list i []) ≡ pair_at pairs i
  listed-at i h =
      let k : Key = pair_of (get_or list i []) in
      sym (map_at pair_of list i [] k h) ∙ ap (λ (l : List Key). get_or l i k) is ∙ pair-at pairs i k (omega (arith, listed-count))

  -- Among the first so many, in the list's order and from the nearest on.
  among-listed : (k : Key) (i : ℕ) → i ≤ length list → is_among k (map pair_of (take i list)) ≡ is_among k (earlier_pairs pairs i)
  unfolding is_among
  among-listed k zero h = sym (among_none k pairs)
  among-listed k (suc i) h =
      let lt : i < length list = omega arith in
      ap (λ (l : List (List ℤ)). is_among k (map pair_of l)) (take-suc list i [] lt)
      ∙ ap (is_among k) (map-append pair_of (take i list) (get_or list i [] ∷ []))
      ∙ among-last k (map pair_of (take i list)) (pair_of (get_or list i []))
      ∙ ap₂ (λ (e : Key) (b : Bool). same k e || b) (listed-at i lt) (among-listed k i (omega arith))
      ∙ sym (among-more k pairs i)

  pub repeat-listed : (i : ℕ) → i < length list → get_or (repeats_from [] (pairs_of pairs)) i false ≡ is_among (pair_of (get_or list i [])) (map pair_of (take i list))
  repeat-listed i h =
      repeat-at pairs i (omega (arith, listed-count)) ∙ stands-earlier pairs i
      ∙ ap (λ (k : Key). is_among k (earlier_pairs pairs i)) (sym (listed-at i h))
      ∙ sym (among-listed (pair_of (get_or list i [])) i (omega arith))

  -- One place more of the first so many, and how often the id stands then.
  times-next : (id : ℤ) (place j : ℕ) → j < place → place ≤ length list →
      times_in (earlier_ids pairs (j + 1)) id ≡ cond (has_id id (get_or (take place list) j [])) (pos 1) (pos 0) +ℤ times_in (earlier_ids pairs j) id
  times-next id place j h k =
      ap (λ (n : ℕ). times_in (earlier_ids pairs n) id) (add-one j) ∙ times_more pairs j id
      ∙ ap (λ (e : Key). cond (eq_z e.major id) (pos 1) (pos 0) +ℤ times_in (earlier_ids pairs j) id)
      (sym (ap (λ (x : List ℤ). pair_of x) (get_or-take place list j [] h) ∙ listed-at j (omega arith)))

  module _ (id : ℤ) (place j : ℕ) (h : j < place) (k : place ≤ length list) (t : ℤ) (counted : t ≡ times_in (earlier_ids pairs j) id) where
    pub times-one-more : (pair_of (get_or (take place list) j [])).major ≡ id → t +ℤ pos 1 ≡ times_in (earlier_ids pairs (j + 1)) id
    times-one-more e = rw (times-next id place j h k, true-eq_z _ id e) (omega (zarith, counted, +-lin t (pos 1), +-lin (pos 1) (times_in (earlier_ids pairs j) id)))

    pub times-no-more : ((pair_of (get_or (take place list) j [])).major ≡ id → ⊥) → t ≡ times_in (earlier_ids pairs (j + 1)) id
    times-no-more n = rw (times-next id place j h k, false-eq_z _ id n) (omega (zarith, counted, +-lin (pos 0) (times_in (earlier_ids pairs j) id)))

  pub times-listed : (id : ℤ) (i : ℕ) → i ≤ length list → pos (length (filter (has_id id) (take i list))) ≡ times_in (earlier_ids pairs i) id
  times-listed id i h = ap pos (length-filter (has_id id) (take i list)) ∙ counted i h
    where
      one : (b : Bool) (n m : ℕ) (z : ℤ) → (b ≡ true → n ≡ m + 1) → (b ≡ false → n ≡ m) → pos m ≡ z → pos n ≡ cond b (pos 1) (pos 0) +ℤ z
      one true n m z f g e = let k : n ≡ m + 1 = f refl in omega (zarith, +-lin (pos 1) z, k)
      one false n m z f g e = let k : n ≡ m = g refl in omega (zarith, +-lin (pos 0) z, k)

      counted : (i : ℕ) → i ≤ length list → pos (count_by (has_id id) (take i list)) ≡ times_in (earlier_ids pairs i) id
      counted zero h = sym (times_none pairs id)
      counted (suc i) h =
          let lt : i < length list = omega arith in
          one (has_id id (get_or list i [])) (count_by (has_id id) (take (suc i) list)) (count_by (has_id id) (take i list)) (times_in (earlier_ids pairs i) id)
          (λ e. ap (λ (n : ℕ). count_by (has_id id) (take n list)) (sym (add-one i)) ∙ count_by_more_yes (has_id id) list i [] lt e)
          (λ e. ap (λ (n : ℕ). count_by (has_id id) (take n list)) (sym (add-one i)) ∙ count_by_more_no (has_id id) list i [] lt e)
          (counted i (omega arith))
          ∙ ap (λ (k : Key). cond (eq_z k.major id) (pos 1) (pos 0) +ℤ times_in (earlier_ids pairs i) id) (listed-at i lt)
          ∙ sym (times_more pairs i id)

-- The rules' test is this one.
pub stood-earlier : (rows : List Record) (earlier ks : List Key) → stood_earlier earlier (sources_at rows ks) ≡ repeats_from earlier ks
unfolding stood_earlier sources_at repeats_from
stood-earlier rows earlier [] = refl
stood-earlier rows earlier (k ∷ rest) = ap (λ (l : List Bool). is_among k earlier ∷ l) (stood-earlier rows (k ∷ earlier) rest)

pub sources-stood-earlier : (cells pairs : List ℤ) → stood_earlier [] (sources_in cells pairs) ≡ repeats_from [] (pairs_of pairs)
unfolding sources_in
sources-stood-earlier cells pairs = stood-earlier _ [] (pairs_of pairs)
