-- Rows put into a table in a run: where the rows before have keys below theirs and the rows after have keys above, the run stands between them in one piece.
-- By induction on the rows before, then on the run. Assumes nothing.
use mathlib.Core.Path.{◌≡◌, sym, ◌∙◌, ap}
use mathlib.Core.Bool.{Bool, true}
use mathlib.Core.List.{List, [], ◌∷◌, ◌++◌, map, append_assoc}
use Rattle.rules.specs.Keyed.{Key, below, rising, upsert, upsert_all}
use Rattle.rules.specs.Refusal.{all_of}
use Rattle.keys.proofs.KeyOrder.{below-trans, below-asym, above-not-same}
use Rattle.keys.proofs.Clauses.{below_all, all_of-nil, all_of-intro, all_of-head, all_of-tail, upsert-nil, upsert-lower, upsert-upper, upsert_all-nil, upsert_all-cons}
use Rattle.keys.proofs.Rising.{below_all-head, below_all-tail, rising-tail, rising-head}

module _ {Row : Type 0} (key : Row → Key) where
  -- Every row of a list lies below a key.
  abbrev pub all_below : Key → List Row → Bool
  all_below k rows = all_of (map (λ (r : Row). below (key r) k) rows)

  pub all_below-head : (k : Key) (r : Row) (rest : List Row) → all_below k (r ∷ rest) ≡ true → below (key r) k ≡ true
  all_below-head k r rest h = all_of-head (below (key r) k) (map (λ (s : Row). below (key s) k) rest) h

  pub all_below-tail : (k : Key) (r : Row) (rest : List Row) → all_below k (r ∷ rest) ≡ true → all_below k rest ≡ true
  all_below-tail k r rest h = all_of-tail (below (key r) k) (map (λ (s : Row). below (key s) k) rest) h

  pub all_below-intro : (k : Key) (r : Row) (rest : List Row) → below (key r) k ≡ true → all_below k rest ≡ true → all_below k (r ∷ rest) ≡ true
  all_below-intro k r rest p q = all_of-intro (below (key r) k) (map (λ (s : Row). below (key s) k) rest) p q

  pub all_below-higher : (j k : Key) (rows : List Row) → below j k ≡ true → all_below j rows ≡ true → all_below k rows ≡ true
  all_below-higher j k [] h a = all_of-nil
  all_below-higher j k (r ∷ rest) h a =
      all_below-intro k r rest (below-trans (key r) j k (all_below-head j r rest a) h) (all_below-higher j k rest h (all_below-tail j r rest a))

  -- One more row, at the end.
  all_below-last : (k : Key) (rows : List Row) (r : Row) → all_below k rows ≡ true → below (key r) k ≡ true → all_below k (rows ++ (r ∷ [])) ≡ true
  all_below-last k [] r h b = all_below-intro k r [] b all_of-nil
  all_below-last k (s ∷ rest) r h b = all_below-intro k s (rest ++ (r ∷ [])) (all_below-head k s rest h) (all_below-last k rest r (all_below-tail k s rest h) b)

  pub upsert-between : (new : Row) (pre post : List Row) → all_below (key new) pre ≡ true → below_all key (key new) post ≡ true
      → upsert key new (pre ++ post) ≡ pre ++ (new ∷ post)
  upsert-between new [] [] b a = upsert-nil key new
  upsert-between new [] (r ∷ rest) b a = upsert-lower key new r rest (below_all-head key (key new) r rest a)
  upsert-between new (r ∷ pre) post b a =
      let h : below (key r) (key new) ≡ true = all_below-head (key new) r pre b in
      upsert-upper key new r (pre ++ post) (below-asym (key r) (key new) h) (above-not-same (key new) (key r) h)
      ∙ ap (λ (rows : List Row). r ∷ rows) (upsert-between new pre post (all_below-tail (key new) r pre b) a)

  -- Each row of a run has a key above the rows before the run and below those after it.
  abbrev pub Between : List Row → List Row → List Row → Type 0
  Between pre post [] = Unit {0}
  Between pre post (new ∷ more) = (all_below (key new) pre ≡ true) × (below_all key (key new) post ≡ true) × Between pre post more

  -- The first row of a rising run joins the rows before the others.
  first-joins : (new : Row) (pre post more : List Row) → below_all key (key new) more ≡ true → Between pre post more → Between (pre ++ (new ∷ [])) post more
  first-joins new pre post [] h s = s
  first-joins new pre post (r ∷ more) h s =
      (all_below-last (key r) pre new s.0 (below_all-head key (key new) r more h), s.1, first-joins new pre post more (below_all-tail key (key new) r more h) s.2)

  pub upsert_all-run : (news pre post : List Row) → rising key news ≡ true → Between pre post news → upsert_all key news (pre ++ post) ≡ pre ++ (news ++ post)
  upsert_all-run [] pre post h s = upsert_all-nil key (pre ++ post)
  upsert_all-run (new ∷ more) pre post h s =
      upsert_all-cons key new more (pre ++ post)
      ∙ ap (upsert_all key more) (upsert-between new pre post s.0 s.1)
      ∙ ap (upsert_all key more) (sym (append_assoc pre (new ∷ []) post))
      ∙ upsert_all-run more (pre ++ (new ∷ [])) post (rising-tail key new more h) (first-joins new pre post more (rising-head key new more h) s.2)
      ∙ append_assoc pre (new ∷ []) (more ++ post)
