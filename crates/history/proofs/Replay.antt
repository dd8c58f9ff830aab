-- From exchanges of neighbours to any reordering, for any states, items and step: if two neighbouring items that don't touch may be exchanged, then every reordering
-- that keeps the order of touching items goes through item by item and ends in the same state. The new list's first item is moved to the front past the items
-- that stood before it, none of which it touches; the rest is a reordering of the rest. By induction on the new list. Assumes nothing beyond the exchange.
use Prim.Native.Nat.{ℕ, zero, suc, ◌<◌}
use mathlib.Core.Path.{◌≡◌, refl, sym, ◌∙◌, ap, subst}
use mathlib.Core.Bool.{Bool, true, false}
use mathlib.Core.List.{List, [], ◌∷◌, ◌++◌}
use mathlib.Core.Option.{some}
use lib.ListN.{length, get_elem?}
use native.Mathlib.Omega.{arith}
use Rattle.keys.proofs.Split.{is_false, none-some, some_inj}
use Rattle.history.specs.History.{Reordering}
use Rattle.history.proofs.Places.{closer, closer-within, closer-once, closer-order, reached, without, length_without, at-without, within-list}

-- An item touches none of a list, and none of a list does.
module _ {Item : Type 0} (touches : Item → Item → Bool) where
  abbrev pub Apart : Item → List Item → Type 0
  Apart y [] = Unit {0}
  Apart y (x ∷ rest) = (touches y x ≡ false) × (Apart y rest)

  abbrev pub AllApart : List Item → List Item → Type 0
  AllApart [] xs = Unit {0}
  AllApart (y ∷ rest) xs = (Apart y xs) × (AllApart rest xs)

module _ {State Item : Type 0} (does : State → Item → Type 0) (next : State → Item → State) where
  -- Each item in turn does what it says, from the first state to the last.
  abbrev pub Replays : State → List Item → State → Type 0
  Replays s [] end = s ≡ end
  Replays s (x ∷ rest) end = (does s x) × (Replays (next s x) rest end)

  -- One replay after another.
  pub replays-then : (xs ys : List Item) (s mid end : State) → Replays s xs mid → Replays mid ys end → Replays s (xs ++ ys) end
  replays-then [] ys s mid end h k = subst (λ (u : State). Replays u ys end) (sym h) k
  replays-then (x ∷ rest) ys s mid end h k = (h.0, replays-then rest ys (next s x) mid end h.1 k)

  module _ (touches : Item → Item → Bool)
      (exchange : (s : State) (x y : Item) → touches y x ≡ false → does s x → does (next s x) y →
      (does s y) × (does (next s y) x) × (next (next s y) x ≡ next (next s x) y)) where
    exchanged : (s end : State) (x y : Item) (rest : List Item) → touches y x ≡ false → Replays s (x ∷ y ∷ rest) end → Replays s (y ∷ x ∷ rest) end
    exchanged s end x y rest d r =
        let e : (does s y) × (does (next s y) x) × (next (next s y) x ≡ next (next s x) y) = exchange s x y d r.0 r.1.0 in
        (e.0, (e.1, subst (λ (u : State). Replays u rest end) (sym e.2) r.1.1))

    -- An item moves to the front past items that it does not touch.
    forward : (p : ℕ) (s end : State) (old : List Item) (y : Item) → get_elem? old p ≡ some y →
        ((q : ℕ) (x : Item) → q < p → get_elem? old q ≡ some x → touches y x ≡ false) → Replays s old end → Replays s (y ∷ without p old) end
    unfolding without
    forward p s end [] y h d r = none-some refl h
    forward zero s end (x ∷ rest) y h d r = subst (λ (u : Item). Replays s (u ∷ rest) end) (some_inj refl h) r
    forward (suc p) s end (x ∷ rest) y h d r =
        exchanged s end x y (without p rest) (d 0 x (omega arith) refl)
        (r.0, forward p (next s x) end rest y h (λ q z l e. d (suc q) z (omega arith) e) r.1)

    -- An item goes before a whole list, and a list before a list.
    before-all : (xs : List Item) (s mid : State) (y : Item) → Apart touches y xs → Replays s xs mid → does mid y → (does s y) × (Replays (next s y) xs (next mid y))
    before-all [] s mid y a r d = (subst (λ (u : State). does u y) (sym r) d, ap (λ (u : State). next u y) r)
    before-all (x ∷ rest) s mid y a r d =
        let w : (does (next s x) y) × (Replays (next (next s x) y) rest (next mid y)) = before-all rest (next s x) mid y a.1 r.1 d in
        let e : (does s y) × (does (next s y) x) × (next (next s y) x ≡ next (next s x) y) = exchange s x y a.0 r.0 w.0 in
        (e.0, (e.1, subst (λ (u : State). Replays u rest (next mid y)) (sym e.2) w.1))

    pub lists-exchanged : (ys xs : List Item) (s mid end : State) → AllApart touches ys xs → Replays s xs mid → Replays mid ys end →
        (between : State) × (Replays s ys between) × (Replays between xs end)
    lists-exchanged [] xs s mid end a r k = (s, refl, subst (λ (u : State). Replays s xs u) k r)
    lists-exchanged (y ∷ rest) xs s mid end a r k =
        let w : (does s y) × (Replays (next s y) xs (next mid y)) = before-all xs s mid y a.0 r k.0 in
        let v : (between : State) × (Replays (next s y) rest between) × (Replays between xs end) = lists-exchanged rest xs (next s y) (next mid y) end a.1 w.1 k.1 in
        (v.0, (w.0, v.1), v.2)

    -- The rest of a reordering is one of the rest.
    later : (old rest : List Item) (y : Item) (o : Reordering touches old (y ∷ rest)) → Reordering touches (without (o.from 0) old) rest
    later old rest y o =
        let p : ℕ = o.from 0 in
        let inside : p < length old = o.within 0 (omega arith) in
        let shorter : suc (length (without p old)) ≡ length old = length_without p old inside in
        record {
          size = let z : suc (length rest) ≡ length old = o.size in omega arith;
          from = λ j. closer p (o.from (suc j));
          within = λ j l.
              let w : o.from (suc j) < length old = o.within (suc j) (omega arith) in
              closer-within p (o.from (suc j)) (length (without p old)) (other j l) (omega arith) (omega arith);
          once = λ i j k l e.
              let z : suc i ≡ suc j = o.once (suc i) (suc j) (omega arith) (omega arith) (closer-once p (o.from (suc i)) (o.from (suc j)) (other i k) (other j l) e) in
              omega arith;
          same = λ j l. o.same (suc j) (omega arith) ∙ sym (at-without p (o.from (suc j)) old (other j l));
          kept = λ i j x z h f g t.
              closer-order p (o.from (suc i)) (o.from (suc j)) (other i (within-list rest i x f)) (other j (within-list rest j z g))
              (o.kept (suc i) (suc j) x z (omega arith) f g t);
        }
      where
        other : (j : ℕ) → j < length rest → o.from (suc j) ≡ o.from 0 → ⊥
        other j l e = let z : suc j ≡ 0 = o.once (suc j) 0 (omega arith) (omega arith) e in omega arith

    -- The first item of the new list touches none that stood before it.
    free : (old rest : List Item) (y : Item) (o : Reordering touches old (y ∷ rest)) (q : ℕ) (x : Item) → q < o.from 0 → get_elem? old q ≡ some x → touches y x ≡ false
    free old rest y o q x l h =
        let n : suc (length rest) ≡ length old = o.size in
        let inside : o.from 0 < length old = o.within 0 (omega arith) in
        let r : (j : ℕ) × (j < suc (length rest)) × (o.from j ≡ q) =
        reached (suc (length rest)) o.from (λ j k. let w : o.from j < length old = o.within j k in omega arith) o.once q (omega arith) in
        is_false (touches y x) (λ t. go r.0 r.1 r.2 t)
      where
        go : (j : ℕ) → j < suc (length rest) → o.from j ≡ q → touches y x ≡ true → ⊥
        go zero k e t = omega arith
        go (suc j) k e t =
            let z : o.from 0 < o.from (suc j) =
            o.kept 0 (suc j) y x (omega arith) refl (o.same (suc j) k ∙ ap (λ (i : ℕ). get_elem? old i) e ∙ h) t in
            omega arith

    empty : (old : List Item) → 0 ≡ length old → old ≡ []
    empty [] h = refl
    empty (x ∷ rest) h = let z : ⊥ = omega arith in absurd z

    pub replay-reordered : (new old : List Item) (s end : State) → Reordering touches old new → Replays s old end → Replays s new end
    replay-reordered [] old s end o r = subst (λ (l : List Item). Replays s l end) (empty old o.size) r
    replay-reordered (y ∷ rest) old s end o r =
        let moved : Replays s (y ∷ without (o.from 0) old) end = forward (o.from 0) s end old y (sym (o.same 0 (omega arith))) (free old rest y o) r in
        (moved.0, replay-reordered rest (without (o.from 0) old) (next s y) end (later old rest y o) moved.1)
