-- Document 02, K8, the reporting list, of any tables: where it is not refused, the cells written are exactly the list (`list-answered`), of which there is but one (`only-list`); and it is refused in no other
-- case than those that the paper names (`answered-exactly`, both ways). Assumes nothing.
use Prim.Native.Nat.{ℕ, ◌*◌, ◌≤◌}
use native.Mathlib.Omega.{arith}
use mathlib.Core.Path.{◌≡◌, refl, sym, ◌∙◌, ap, subst}
use mathlib.Core.Bool.{true, false, not}
use mathlib.Core.List.{List, [], map}
use mathlib.Core.Option.{Option, none}
use borrow.Author.Tests.{not-true, not-false, ltb-false, le-ltb}
use lib.Dec.{ltb}
use lib.IntN.{ℤ, pos}
use lib.ListN.{length, length-map}
use Rattle.rules.specs.Keyed.{Key, is_some, rising}
use Rattle.rules.specs.Rows.{record_key}
use Rattle.rules.specs.Refusal.{Test, any_of}
use Rattle.rules.specs.Merge.{pairs_of}
use Rattle.rules.specs.Layout.{rows_of}
use Rattle.rules.specs.Tables.{Tables, records_layout, sound_records, current_day, books_of}
use Rattle.rules.specs.Handle.{answer}
use Rattle.rules.specs.Reportable.{is_reportable, lacks_parent, reportable_records, ids_and_suffixes, reportable_tests, reportable_refusal, listed_in, handle_reportable}
use Rattle.rules.specs.Call.{reportable, handle_call}
use Rattle.rules.specs.declared.Record.{Record}
use Rattle.rules.specs.declared.Reply.TheVariants.{Listed}
use Rattle.keys.proofs.Counts.{is_some-absent}
use Rattle.keys.proofs.Clauses.{is_some-none}
use Rattle.cells.proofs.SoundBookCells.{books-records-rise}
use Rattle.history.specs.History.{call_accepted}
use Rattle.history.proofs.Refusals.{no-refusal, test-passes, rest-passes, passes-test}
use Rattle.reporting.specs.Reported.{Stands, Reportable}
use Rattle.reporting.specs.Lists.{ListsExactly, ListAnswered, Answerable}
use Rattle.reporting.proofs.Standing.{mapped, from-mapped, one_place, told-by-items, any-passes, passes-any}
use Rattle.reporting.proofs.Reported.{reportable-told, told-reportable, parent-told, told_parent}
use Rattle.reporting.proofs.Listed.{passes-listed, listed-passes, listed-rises, pairs-listed, two-cells-each, keys-rise, told-by-pairs}

-- ---- the cells, of a table whose rows rise

module _ (today : ℤ) (records : List Record) (rise : rising record_key records ≡ true) where
  abbrev chosen : List Record
  chosen = reportable_records today records

  abbrev cells : List ℤ
  cells = ids_and_suffixes chosen

  pairs-rise : rising (λ (k : Key). k) (pairs_of cells) ≡ true
  pairs-rise = ap (λ (l : List Key). rising (λ (k : Key). k) l) (pairs-listed chosen) ∙ keys-rise chosen ∙ listed-rises today records records rise

  pub pairs-number : length (pairs_of cells) ≡ length chosen
  pairs-number = ap (λ (l : List Key). length l) (pairs-listed chosen) ∙ length-map chosen record_key

  no-other-listed : (k : Key) → Stands (pairs_of cells) k → (r : Record) × (Stands records r) × (record_key r ≡ k) × (Reportable today records r)
  no-other-listed k s =
      let w : (r : Record) × (Stands chosen r) × (record_key r ≡ k) = from-mapped record_key chosen k (subst (λ (l : List Key). Stands l k) (pairs-listed chosen) s) in
      let h : (Stands records w.0) × (is_reportable today records w.0 ≡ true) = listed-passes today records records w.0 w.1 in
      (w.0, h.0, w.2, reportable-told records w.0 today h.1)

  pub lists-exactly : ListsExactly today records cells
  lists-exactly = record {
    each = λ r s w.
        subst (λ (l : List Key). Stands l (record_key r)) (sym (pairs-listed chosen))
        (mapped record_key chosen r (passes-listed today records records r s (told-reportable records r today rise w)));
    no_other = no-other-listed;
    in-table-order = pairs-rise;
    once = λ i j k e f. one_place (λ (k : Key). k) (pairs_of cells) i j k pairs-rise e f;
    pairs-alone = two-cells-each chosen ∙ ap (λ (n : ℕ). 2 * n) (sym pairs-number);
  }

-- There is but one such list.
pub only-list : (today : ℤ) (records : List Record) (xs ys : List ℤ) → ListsExactly today records xs → ListsExactly today records ys → xs ≡ ys
only-list today records xs ys a b =
    told-by-pairs xs ys a.pairs-alone b.pairs-alone (told-by-items (pairs_of xs) (pairs_of ys) a.in-table-order b.in-table-order (there xs ys a b) (there ys xs b a))
  where
    there : (us vs : List ℤ) → ListsExactly today records us → ListsExactly today records vs → (k : Key) → Stands (pairs_of us) k → Stands (pairs_of vs) k
    there us vs c d k s =
        let w : (r : Record) × (Stands records r) × (record_key r ≡ k) × (Reportable today records r) = c.no_other k s in
        subst (λ (x : Key). Stands (pairs_of vs) x) w.2 (d.each w.0 w.1 w.3)

-- ---- the call

module _ (t : Tables) (lent : ℕ) where
  abbrev today : ℤ
  today = current_day t.records

  abbrev rows : List Record
  rows = rows_of records_layout t.records

  rows-rise : sound_records t.records ≡ true → rising record_key rows ≡ true
  unfolding books_of
  rows-rise sound = books-records-rise t sound

  no-refusal-applies : call_accepted t (reportable lent) ≡ true → reportable_refusal t lent ≡ none
  unfolding call_accepted
  no-refusal-applies ok = is_some-absent (reportable_refusal t lent) (not-true (is_some (reportable_refusal t lent)) ok)

  -- What tests 1, 5 and 14 say where none of them applies.
  record Passed : Type 0 where
    sound : sound_records t.records ≡ true
    none-lacks : any_of (map (lacks_parent today rows) rows) ≡ false
    room : 2 * length (reportable_records today rows) ≤ lent

  passed : call_accepted t (reportable lent) ≡ true → Passed
  unfolding reportable_tests books_of
  passed ok = record {
    sound = not-false (sound_records t.records) (test-passes 1 _ _ (no-refusal-applies ok));
    none-lacks = test-passes 5 _ _ (rest-passes _ _ (no-refusal-applies ok));
    room = ltb-false lent (2 * length (reportable_records today rows)) (test-passes 14 _ _ (rest-passes _ _ (rest-passes _ _ (no-refusal-applies ok))));
  }

  -- The answer, where no refusal applies.
  pub list-answered : call_accepted t (reportable lent) ≡ true → ListAnswered t lent (handle_call t (reportable lent))
  unfolding handle_call handle_reportable answer listed_in books_of
  list-answered ok =
      let p : Passed = passed ok in
      let rise : rising record_key rows ≡ true = rows-rise p.sound in
      subst (λ (o : Option Test). ListAnswered t lent (answer o t (listed_in t))) (sym (no-refusal-applies ok))
      (record {
        number = ap (λ (n : ℕ). Listed (pos n)) (sym (pairs-number today rows rise));
        lists = lists-exactly today rows rise;
        fits = omega (arith, two-cells-each (reportable_records today rows), p.room);
        unwritten = refl;
      })

  -- It is answered where the paper names no refusal, and nowhere else.
  pub answered-exactly : call_accepted t (reportable lent) ≡ true → Answerable t lent
  answered-exactly ok =
      let p : Passed = passed ok in
      record {
        sound = p.sound;
        parents = λ r s d e. parent-told rows r today (any-passes (lacks_parent today rows) rows r p.none-lacks s) d e;
        fitting = λ xs l.
            subst (λ (cells : List ℤ). length cells ≤ lent) (only-list today rows (ids_and_suffixes (reportable_records today rows)) xs (lists-exactly today rows (rows-rise p.sound)) l)
            (omega (arith, two-cells-each (reportable_records today rows), p.room));
      }

  pub answerable-answered : Answerable t lent → call_accepted t (reportable lent) ≡ true
  unfolding call_accepted reportable_tests books_of
  answerable-answered a =
      let rise : rising record_key rows ≡ true = rows-rise a.sound in
      let listed : List Record = reportable_records today rows in
      let fits : length (ids_and_suffixes listed) ≤ lent = a.fitting (ids_and_suffixes listed) (lists-exactly today rows rise) in
      let room : 2 * length listed ≤ lent = omega (arith, two-cells-each listed, fits) in
      ap (λ (o : Option Test). not (is_some o))
      (passes-test 1 (not (sound_records t.records)) _ (ap not a.sound)
      (passes-test 5 (any_of (map (lacks_parent today rows) rows)) _ (passes-any (lacks_parent today rows) rows (λ r s. told_parent rows r today rise (a.parents r s)))
      (passes-test 14 (ltb lent (2 * length listed)) [] (le-ltb lent (2 * length listed) room) no-refusal)))
      ∙ ap not (is_some-none Test)
