-- A figure summed over the records of a rising table. A record put at a key that is absent adds its own figure; one that replaces another adds its own and takes the other's away. So the records
-- that a request changes, no two at one key, and those that it adds. By induction on the table, then on the records that are put. Assumes nothing.
use mathlib.Core.Path.{◌≡◌, refl, sym, ◌∙◌, ap, ap₂}
use mathlib.Core.Bool.{true, not}
use mathlib.Core.List.{List, [], ◌∷◌, ◌++◌}
use mathlib.Core.Option.{Option, none, some}
use borrow.Author.Tests.{not-true}
use lib.IntN.{ℤ, pos, ◌+ℤ◌}
use Rattle.integers.proofs.Linear.{zarith, +-lin}
use Rattle.rules.specs.Keyed.{Key, same, is_some, find, rising, upsert, upsert_all}
use Rattle.rules.specs.Rows.{record_key}
use Rattle.rules.specs.NamedRecord.{the_record}
use Rattle.rules.specs.Books.{Books}
use Rattle.rules.specs.Plan.{Effects, booked}
use Rattle.rules.specs.Totals.{sum_over}
use Rattle.rules.specs.declared.Record.{Record}
use Rattle.keys.proofs.Split.{none-some, some_inj}
use Rattle.keys.proofs.KeyOrder.{same-sym, Way, lower, level, upper, way}
use Rattle.keys.proofs.Clauses.{find-nil, find-here, find-there, upsert-nil, upsert-lower, upsert-level, upsert-upper, upsert_all-nil, upsert_all-cons}
use Rattle.keys.proofs.Lookup.{find-upsert-other}
use Rattle.keys.proofs.Rising.{below_all-intro, below_all-lower, rising-tail, rising-head, find-low, upsert-rises}
use Rattle.keys.proofs.Folds.{Only, only-head, only-tail, upsert_all-append}
use Rattle.keys.proofs.Counts.{distinct, distinct_head, distinct_tail, has_all, has_all-head, has_all-upsert, lacks_all, lacks_all-head, lacks_all-upsert, lacks_all-upsert_all}
use Rattle.soundness.specs.SoundBooks.{SoundBooks}
use Rattle.soundness.proofs.BookingFacts.{BookingFacts}
use Rattle.totals.specs.Replaced.{replaced}

-- ---- lists

module _ (figure : Record → ℤ) where
  pub sum-nil : sum_over figure [] ≡ pos 0
  unfolding sum_over
  sum-nil = refl

  pub sum-cons : (r : Record) (rest : List Record) → sum_over figure (r ∷ rest) ≡ figure r +ℤ sum_over figure rest
  unfolding sum_over
  sum-cons r rest = refl

  pub sum-append : (xs ys : List Record) → sum_over figure (xs ++ ys) ≡ sum_over figure xs +ℤ sum_over figure ys
  unfolding sum_over
  sum-append [] ys = omega (zarith, +-lin (pos 0) (sum_over figure ys))
  sum-append (r ∷ rest) ys =
      let later : sum_over figure (rest ++ ys) ≡ sum_over figure rest +ℤ sum_over figure ys = sum-append rest ys in
      omega (
        zarith,
        +-lin (figure r) (sum_over figure (rest ++ ys)),
        +-lin (sum_over figure rest) (sum_over figure ys),
        +-lin (figure r) (sum_over figure rest),
        +-lin (figure r +ℤ sum_over figure rest) (sum_over figure ys),
      )

  -- ---- one record put

  pub put-adds : (new : Record) (t : List Record) → find record_key (record_key new) t ≡ none → sum_over figure (upsert record_key new t) ≡ sum_over figure t +ℤ figure new
  unfolding sum_over
  put-adds new [] h = rw (upsert-nil record_key new) (omega (zarith, +-lin (figure new) (pos 0), +-lin (pos 0) (figure new)))
  put-adds new (r ∷ rest) h = go (put-adds new rest) (way (record_key new) (record_key r))
    where
      go : (find record_key (record_key new) rest ≡ none → sum_over figure (upsert record_key new rest) ≡ sum_over figure rest +ℤ figure new) → Way (record_key new) (record_key r) →
          sum_over figure (upsert record_key new (r ∷ rest)) ≡ (figure r +ℤ sum_over figure rest) +ℤ figure new
      go again (lower b _ _) =
          rw (upsert-lower record_key new r rest b)
          (omega (zarith, +-lin (figure new) (figure r +ℤ sum_over figure rest), +-lin (figure r +ℤ sum_over figure rest) (figure new)))
      go again (level e s _ _) = none-some h (find-here record_key (record_key new) r rest (same-sym (record_key r) (record_key new) ∙ s))
      go again (upper a s b) =
          let later : sum_over figure (upsert record_key new rest) ≡ sum_over figure rest +ℤ figure new =
          again (sym (find-there record_key (record_key new) r rest (same-sym (record_key r) (record_key new) ∙ s)) ∙ h) in
          rw (upsert-upper record_key new r rest b s)
          (omega (
            zarith,
            +-lin (figure r) (sum_over figure (upsert record_key new rest)),
            +-lin (sum_over figure rest) (figure new),
            +-lin (figure r) (sum_over figure rest),
            +-lin (figure r +ℤ sum_over figure rest) (figure new),
          ))

  pub put-replaces : (new x : Record) (t : List Record) → rising record_key t ≡ true → find record_key (record_key new) t ≡ some x →
      sum_over figure (upsert record_key new t) +ℤ figure x ≡ sum_over figure t +ℤ figure new
  unfolding sum_over
  put-replaces new x [] h f = none-some (find-nil record_key (record_key new)) f
  put-replaces new x (r ∷ rest) h f = go (put-replaces new x rest (rising-tail record_key r rest h)) (way (record_key new) (record_key r))
    where
      go : (find record_key (record_key new) rest ≡ some x → sum_over figure (upsert record_key new rest) +ℤ figure x ≡ sum_over figure rest +ℤ figure new) →
          Way (record_key new) (record_key r) → sum_over figure (upsert record_key new (r ∷ rest)) +ℤ figure x ≡ (figure r +ℤ sum_over figure rest) +ℤ figure new
      go again (lower b _ _) =
          none-some
          (find-low record_key (record_key new) (r ∷ rest)
          (below_all-intro record_key (record_key new) r rest b (below_all-lower record_key (record_key new) (record_key r) rest b (rising-head record_key r rest h))))
          f
      go again (level e s _ _) =
          let same_row : x ≡ r = some_inj f (find-here record_key (record_key new) r rest (same-sym (record_key r) (record_key new) ∙ s)) in
          let same-figure : figure x ≡ figure r = ap figure same_row in
          rw (upsert-level record_key new r rest s)
          (omega (
            zarith,
            +-lin (figure new) (sum_over figure rest),
            +-lin (figure new +ℤ sum_over figure rest) (figure x),
            +-lin (figure r) (sum_over figure rest),
            +-lin (figure r +ℤ sum_over figure rest) (figure new),
          ))
      go again (upper a s b) =
          let later : sum_over figure (upsert record_key new rest) +ℤ figure x ≡ sum_over figure rest +ℤ figure new =
          again (sym (find-there record_key (record_key new) r rest (same-sym (record_key r) (record_key new) ∙ s)) ∙ f) in
          rw (upsert-upper record_key new r rest b s)
          (omega (
            zarith,
            +-lin (figure r) (sum_over figure (upsert record_key new rest)),
            +-lin (figure r +ℤ sum_over figure (upsert record_key new rest)) (figure x),
            +-lin (sum_over figure (upsert record_key new rest)) (figure x),
            +-lin (sum_over figure rest) (figure new),
            +-lin (figure r) (sum_over figure rest),
            +-lin (figure r +ℤ sum_over figure rest) (figure new),
          ))

  -- ---- records put one after the other

  pub puts-add : (rs t : List Record) → distinct record_key rs ≡ true → lacks_all record_key t rs ≡ true → sum_over figure (upsert_all record_key rs t) ≡ sum_over figure t +ℤ sum_over figure rs
  unfolding sum_over
  puts-add [] t d a = rw (upsert_all-nil record_key t) (omega (zarith, +-lin (sum_over figure t) (pos 0)))
  puts-add (r ∷ rest) t d a =
      let u : List Record = upsert record_key r t in
      let first : sum_over figure u ≡ sum_over figure t +ℤ figure r = put-adds r t (lacks_all-head record_key t r rest a) in
      let later : sum_over figure (upsert_all record_key rest u) ≡ sum_over figure u +ℤ sum_over figure rest =
      puts-add rest u (distinct_tail record_key r rest d)
      (lacks_all-upsert record_key r rest t (distinct_head record_key r rest d) (only-tail record_key (λ (k : Key). not (is_some (find record_key k t))) r rest a)) in
      rw (upsert_all-cons record_key r rest t)
      (omega (
        zarith,
        +-lin (sum_over figure t) (figure r),
        +-lin (sum_over figure u) (sum_over figure rest),
        +-lin (figure r) (sum_over figure rest),
        +-lin (sum_over figure t) (figure r +ℤ sum_over figure rest),
      ))

-- A put leaves what stands at other keys.
replaced-after : (new : Record) (rs t : List Record) → Only record_key (λ (k : Key). not (same (record_key new) k)) rs → replaced (upsert record_key new t) rs ≡ replaced t rs
unfolding replaced
replaced-after new [] t o = refl
replaced-after new (r ∷ rest) t o =
    ap₂ (λ (x : Record) (xs : List Record). x ∷ xs)
    (ap the_record (find-upsert-other record_key (record_key r) new t (not-true (same (record_key new) (record_key r)) (only-head record_key (λ (k : Key). not (same (record_key new) k)) r rest o))))
    (replaced-after new rest t (only-tail record_key (λ (k : Key). not (same (record_key new) k)) r rest o))

stands-there : (o : Option Record) (x : Record) → o ≡ some x → o ≡ some (the_record o)
unfolding the_record
stands-there o x e = e ∙ ap (λ (w : Option Record). some (the_record w)) (sym e)

module _ (figure : Record → ℤ) where
  pub puts-replace : (rs t : List Record) → rising record_key t ≡ true → distinct record_key rs ≡ true → has_all record_key t rs ≡ true →
      sum_over figure (upsert_all record_key rs t) +ℤ sum_over figure (replaced t rs) ≡ sum_over figure t +ℤ sum_over figure rs
  unfolding sum_over replaced
  puts-replace [] t h d p = rw (upsert_all-nil record_key t)
  puts-replace (r ∷ rest) t h d p =
      let u : List Record = upsert record_key r t in
      let x : Record = the_record (find record_key (record_key r) t) in
      let there : find record_key (record_key r) t ≡ some x = stands-there (find record_key (record_key r) t) (has_all-head record_key t r rest p).0 (has_all-head record_key t r rest p).1 in
      let first : sum_over figure u +ℤ figure x ≡ sum_over figure t +ℤ figure r = put-replaces figure r x t h there in
      let others : sum_over figure (replaced u rest) ≡ sum_over figure (replaced t rest) = ap (sum_over figure) (replaced-after r rest t (distinct_head record_key r rest d)) in
      let later : sum_over figure (upsert_all record_key rest u) +ℤ sum_over figure (replaced u rest) ≡ sum_over figure u +ℤ sum_over figure rest =
      puts-replace rest u (upsert-rises record_key r t h) (distinct_tail record_key r rest d)
      (has_all-upsert record_key r rest t (only-tail record_key (λ (k : Key). is_some (find record_key k t)) r rest p)) in
      rw (upsert_all-cons record_key r rest t)
      (omega (
        zarith,
        +-lin (sum_over figure u) (figure x),
        +-lin (sum_over figure t) (figure r),
        +-lin (sum_over figure (upsert_all record_key rest u)) (sum_over figure (replaced u rest)),
        +-lin (sum_over figure u) (sum_over figure rest),
        +-lin (figure x) (sum_over figure (replaced t rest)),
        +-lin (sum_over figure (upsert_all record_key rest u)) (figure x +ℤ sum_over figure (replaced t rest)),
        +-lin (figure r) (sum_over figure rest),
        +-lin (sum_over figure t) (figure r +ℤ sum_over figure rest),
      ))

  -- What the effects of a plan do to the sum: it gains the figures of the records that are changed and added, and loses those of the records that the changed ones replace.
  pub booked-sum : (b : Books) → SoundBooks b → (e : Effects) → BookingFacts b e → distinct record_key e.changed ≡ true →
      sum_over figure (booked e b).records +ℤ sum_over figure (replaced b.records e.changed) ≡ sum_over figure b.records +ℤ (sum_over figure e.changed +ℤ sum_over figure e.added)
  unfolding booked
  booked-sum b sound e f d =
      let t : List Record = b.records in
      let u : List Record = upsert_all record_key e.changed t in
      let old : ℤ = sum_over figure (replaced t e.changed) in
      let end : ℤ = sum_over figure (upsert_all record_key e.added u) in
      let changes : sum_over figure u +ℤ old ≡ sum_over figure t +ℤ sum_over figure e.changed = puts-replace e.changed t sound.records-rise d f.changed-present in
      let adds : end ≡ sum_over figure u +ℤ sum_over figure e.added =
      puts-add figure e.added u f.added-distinct (lacks_all-upsert_all record_key e.changed e.added t f.changed-present f.added-absent) in
      rw (upsert_all-append record_key e.changed e.added t)
      (omega (
        zarith,
        +-lin (sum_over figure u) old,
        +-lin (sum_over figure t) (sum_over figure e.changed),
        +-lin (sum_over figure u) (sum_over figure e.added),
        +-lin end old,
        +-lin (sum_over figure e.changed) (sum_over figure e.added),
        +-lin (sum_over figure t) (sum_over figure e.changed +ℤ sum_over figure e.added),
      ))
