-- Two calls that don't touch: no request of the one touches a request of the other. Once over the two lists that a request names, ids and positions; and none of their requests touches everything.
-- Assumes nothing.
use Prim.Native.Nat.{ℕ, zero, suc, ◌+◌}
use mathlib.Core.Path.{◌≡◌, refl, sym, ◌∙◌, subst}
use mathlib.Core.Bool.{Bool, false, ◌||◌}
use mathlib.Core.List.{List, [], ◌∷◌, ◌++◌, map, flat_map}
use lib.IntN.{ℤ}
use Rattle.integers.specs.Order.{eq_z}
use Rattle.rules.specs.Keyed.{Key, same}
use Rattle.rules.specs.Request.{Request}
use Rattle.rules.specs.Merge.{is_among}
use Rattle.rules.specs.Refusal.{any_of}
use Rattle.rules.specs.Layout.{decode}
use Rattle.rules.specs.Batch.{trade_at, trade_count, trades_of}
use Rattle.rules.specs.Call.{Call, one, trades, replay, reportable, requests_of}
use Rattle.rules.specs.Touching.{ids_of, positions_of, is_named_in, share_id, share_position, touches_all, touch, call_touches_all, call_ids, call_positions, calls_touch}
use Rattle.rules.specs.Sequence.{Done}
use Rattle.keys.proofs.Split.{or-false, or-false-left, or-false-right}
use Rattle.soundness.proofs.Accepted.{any_of-head, any_of-tail}
use Rattle.history.proofs.Replay.{Apart, AllApart}
use Rattle.history.proofs.Sequences.{requests_done}

-- What is named by equality, and what two lists share.
record Sharing (A : Type 0) (named : A → List A → Bool) (share : List A → List A → Bool) : Type 0 where
  equal : A → A → Bool
  named_none : (x : A) → named x [] ≡ false
  named_more : (x y : A) (rest : List A) → named x (y ∷ rest) ≡ (equal x y || named x rest)
  share-none : (others : List A) → share [] others ≡ false
  share-more : (x : A) (rest others : List A) → share (x ∷ rest) others ≡ (named x others || share rest others)

module _ {A : Type 0} {named : A → List A → Bool} {share : List A → List A → Bool} (s : Sharing A named share) where
  -- A name in neither part, where it is not in the whole.
  not_named : (x : A) (xs ys : List A) → named x (xs ++ ys) ≡ false → (named x xs ≡ false) × (named x ys ≡ false)
  not_named x [] ys h = (s.named_none x, h)
  not_named x (a ∷ xs) ys h =
      let k : (s.equal x a || named x (xs ++ ys)) ≡ false = sym (s.named_more x a (xs ++ ys)) ∙ h in
      let w : (named x xs ≡ false) × (named x ys ≡ false) = not_named x xs ys (or-false-right (s.equal x a) (named x (xs ++ ys)) k) in
      (s.named_more x a xs ∙ or-false (or-false-left (s.equal x a) (named x (xs ++ ys)) k) w.0, w.1)

  left-parts : (xs ys others : List A) → share (xs ++ ys) others ≡ false → (share xs others ≡ false) × (share ys others ≡ false)
  left-parts [] ys others h = (s.share-none others, h)
  left-parts (a ∷ xs) ys others h =
      let k : (named a others || share (xs ++ ys) others) ≡ false = sym (s.share-more a (xs ++ ys) others) ∙ h in
      let w : (share xs others ≡ false) × (share ys others ≡ false) = left-parts xs ys others (or-false-right (named a others) (share (xs ++ ys) others) k) in
      (s.share-more a xs others ∙ or-false (or-false-left (named a others) (share (xs ++ ys) others) k) w.0, w.1)

  right-parts : (names xs ys : List A) → share names (xs ++ ys) ≡ false → (share names xs ≡ false) × (share names ys ≡ false)
  right-parts [] xs ys h = (s.share-none xs, s.share-none ys)
  right-parts (x ∷ rest) xs ys h =
      let k : (named x (xs ++ ys) || share rest (xs ++ ys)) ≡ false = sym (s.share-more x rest (xs ++ ys)) ∙ h in
      let v : (named x xs ≡ false) × (named x ys ≡ false) = not_named x xs ys (or-false-left (named x (xs ++ ys)) (share rest (xs ++ ys)) k) in
      let w : (share rest xs ≡ false) × (share rest ys ≡ false) = right-parts rest xs ys (or-false-right (named x (xs ++ ys)) (share rest (xs ++ ys)) k) in
      (s.share-more x rest xs ∙ or-false v.0 w.0, s.share-more x rest ys ∙ or-false v.1 w.1)

ids : Sharing ℤ is_named_in share_id
unfolding is_named_in share_id
ids = record { equal = eq_z; named_none = λ x. refl; named_more = λ x y rest. refl; share-none = λ others. refl; share-more = λ x rest others. refl }

positions : Sharing Key is_among share_position
unfolding is_among share_position
positions = record { equal = same; named_none = λ x. refl; named_more = λ x y rest. refl; share-none = λ others. refl; share-more = λ x rest others. refl }

-- The two tests of touching, of what two lists of requests name.
abbrev NoneShared : List Request → List Request → Type 0
NoneShared xs ys = (share_id (flat_map ids_of xs) (flat_map ids_of ys) ≡ false) × (share_position (flat_map positions_of xs) (flat_map positions_of ys) ≡ false)

-- None of these touches everything.
abbrev NoneAll : List Request → Type 0
NoneAll rs = any_of (map touches_all rs) ≡ false

abbrev pub done_touch : Done → Done → Bool
done_touch a b = touch a.request b.request

one_apart : (y : Done) (xs : List Done) → touches_all y.request ≡ false → any_of (map touches_all (requests_done xs)) ≡ false → share_id (ids_of y.request) (flat_map ids_of (requests_done xs)) ≡ false →
    share_position (positions_of y.request) (flat_map positions_of (requests_done xs)) ≡ false → Apart done_touch y xs
unfolding flat_map touch
one_apart y [] n m h k = tt
one_apart y (x ∷ rest) n m h k =
    let v : (share_id (ids_of y.request) (ids_of x.request) ≡ false) × (share_id (ids_of y.request) (flat_map ids_of (requests_done rest)) ≡ false) = right-parts ids _ _ _ h in
    let w : (share_position (positions_of y.request) (positions_of x.request) ≡ false) × (share_position (positions_of y.request) (flat_map positions_of (requests_done rest)) ≡ false) =
    right-parts positions _ _ _ k in (
      or-false (or-false n (any_of-head (touches_all x.request) (map touches_all (requests_done rest)) m)) (or-false v.0 w.0),
      one_apart y rest n (any_of-tail (touches_all x.request) (map touches_all (requests_done rest)) m) v.1 w.1,
    )

all_apart : (ys xs : List Done) → NoneAll (requests_done ys) → NoneAll (requests_done xs) → NoneShared (requests_done ys) (requests_done xs) → AllApart done_touch ys xs
unfolding flat_map
all_apart [] xs n m h = tt
all_apart (y ∷ rest) xs n m h =
    let v : (share_id (ids_of y.request) (flat_map ids_of (requests_done xs)) ≡ false) × (share_id (flat_map ids_of (requests_done rest)) (flat_map ids_of (requests_done xs)) ≡ false) = left-parts ids _ _ _ h.0 in
    let w : (share_position (positions_of y.request) (flat_map positions_of (requests_done xs)) ≡ false) × (share_position (flat_map positions_of (requests_done rest)) (flat_map positions_of (requests_done xs)) ≡ false) =
    left-parts positions _ _ _ h.1 in (
      one_apart y xs (any_of-head (touches_all y.request) (map touches_all (requests_done rest)) n) m v.0 w.0,
      all_apart rest xs (any_of-tail (touches_all y.request) (map touches_all (requests_done rest)) n) m (v.1, w.1),
    )

-- A call that does not touch everything has no request that does.
trades-not-all : (n at : ℕ) (figures : List ℤ) → NoneAll (decode trade_at 6 n at figures)
unfolding any_of touches_all
trades-not-all zero at figures = refl
trades-not-all (suc n) at figures = trades-not-all n (at + 6) figures

none-all : (c : Call) → call_touches_all c ≡ false → NoneAll (requests_of c)
unfolding call_touches_all requests_of any_of trades_of
none-all (one r) h = or-false h refl
none-all (trades figures cells) h = trades-not-all (trade_count figures) 0 figures
none-all (replay text) h = h
none-all (reportable cells) h = refl

-- Neither of two calls that don't touch touches everything.
pub neither-all : (a b : Call) → calls_touch a b ≡ false → (call_touches_all a ≡ false) × (call_touches_all b ≡ false)
unfolding calls_touch
neither-all a b free =
    let h : (call_touches_all a || call_touches_all b) ≡ false = or-false-left (call_touches_all a || call_touches_all b) (share_id (call_ids a) (call_ids b) || share_position (call_positions a) (call_positions b)) free in
    (or-false-left (call_touches_all a) (call_touches_all b) h, or-false-right (call_touches_all a) (call_touches_all b) h)

-- Of two calls, by the requests that were done for them.
pub calls-apart : (a b : Call) (ys xs : List Done) → requests_done ys ≡ requests_of a → requests_done xs ≡ requests_of b → calls_touch a b ≡ false → AllApart done_touch ys xs
unfolding calls_touch call_ids call_positions
calls-apart a b ys xs ha hb free =
    let i : Bool = share_id (call_ids a) (call_ids b) in
    let p : Bool = share_position (call_positions a) (call_positions b) in
    let shared : (i || p) ≡ false = or-false-right (call_touches_all a || call_touches_all b) (i || p) free in
    all_apart ys xs
    (subst (λ (l : List Request). NoneAll l) (sym ha) (none-all a (neither-all a b free).0))
    (subst (λ (l : List Request). NoneAll l) (sym hb) (none-all b (neither-all a b free).1))
    (subst (λ (l : List Request). NoneShared l (requests_done xs)) (sym ha)
    (subst (λ (l : List Request). NoneShared (requests_of a) l) (sym hb) (or-false-left i p shared, or-false-right i p shared)))
