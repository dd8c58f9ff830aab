-- Demand 2 on the cells of the tables: sound tables stay sound, whatever the request; cell 0 of the records table grows by the rows that the answer names, on any tables;
-- and an accepted merge keeps the margin, beside any process table. Assumes nothing.
use mathlib.Core.Path.{◌≡◌, refl, sym, ◌∙◌, ap, subst}
use mathlib.Core.Bool.{true, false}
use mathlib.Core.List.{List}
use mathlib.Core.Logic.{◌⊎◌, inl, inr}
use mathlib.Core.Option.{Option, none, some}
use lib.IntN.{ℤ, pos, ◌+ℤ◌, +ℤ_idr}
use lib.ListN.{length}
use Rattle.rules.specs.Request.{Request, trade, separate, transfer, merge, lineage, give_up, new_day, is_step}
use Rattle.rules.specs.Books.{Books, view_of}
use Rattle.rules.specs.Plan.{plan_reply}
use Rattle.rules.specs.Layout.{count_of}
use Rattle.rules.specs.Tables.{Tables, tables_of, with_processes, sound_processes, books_of}
use Rattle.rules.specs.Trade.{trade_plan}
use Rattle.rules.specs.Separation.{separation_plan}
use Rattle.rules.specs.Transfer.{transfer_plan}
use Rattle.rules.specs.Merge.{Source, pairs_of, records_of, merge_plan}
use Rattle.rules.specs.GiveUp.{give_up_effects, give_up_plan}
use Rattle.rules.specs.Lineage.{Origin, lineage_reply, lineage_plan}
use Rattle.rules.specs.Reply.{refused_by}
use Rattle.rules.specs.Handle.{Answer, plan_of, handle}
use Rattle.rules.specs.declared.Record.{Record}
use Rattle.rules.specs.declared.Reply.{Reply}
use Rattle.cells.proofs.SoundCells.{record-rows-sound, records-known}
use Rattle.cells.proofs.BookCells.{books-records}
use Rattle.soundness.specs.RowsAnswered.{rows_answered}
use Rattle.soundness.specs.SoundBooks.{plan_on, after}
use Rattle.soundness.specs.SoundTables.{SoundTables}
use Rattle.soundness.proofs.Growth.{answered-growth}
use Rattle.margin.specs.Margin.{margin_of_all, MergeKeepsMargin}
use Rattle.margin.proofs.MergeMargin.{merge-keeps-margin}
use Rattle.keys.proofs.Split.{split}
use Rattle.history.specs.History.{is_accepted}
use Rattle.history.proofs.Accepted.{refused-tables, accepted-rows, accepted-reply, all_sound, booked-on-sound}
use Rattle.history.proofs.Locality.{same-sources}
use Rattle.history.specs.Beside.{with_answer}
use Rattle.history.proofs.ProcessesApart.{apart-promised}
use Rattle.history.proofs.TableExchange.{accepts-as, no_step, no-processes-sound}
use Rattle.history.proofs.Answers.{not-accepted-refused}
use Rattle.history.proofs.LineageAlone.{lineage-stays}
use Rattle.history.proofs.DayAlone.{day-count, day-reply}
use Rattle.history.proofs.Step.{sound-books, step-books, step-sound}

-- From tables that pass tests 1, 2 and 19, whatever the request, the tables afterwards pass them.
pub stays-sound : (t : Tables) → SoundTables t → (r : Request) → SoundTables (handle t r).tables
stays-sound t sound r = go (split (is_accepted t r))
  where
    go : (is_accepted t r ≡ true) ⊎ (is_accepted t r ≡ false) → SoundTables (handle t r).tables
    go (inl ok) = step-sound t sound r ok
    go (inr not-ok) = subst (λ (u : Tables). SoundTables u) (sym (refused-tables t r not-ok)) sound

-- Of a sound table, cell 0 is the number of its rows.
count-is : (t : Tables) → SoundTables t → count_of t.records ≡ pos (length (books_of t).records)
count-is t sound = (records-known t.records (record-rows-sound t.records sound.records)).count ∙ ap (λ (rows : List Record). pos (length rows)) (sym (books-records t))

abbrev Grown : Tables → Request → Type 0
Grown t r = count_of (handle t r).tables.records ≡ count_of t.records +ℤ rows_answered (handle t r).reply

-- Of an accepted request on sound tables.
grows-on-sound : (t : Tables) (r : Request) → SoundTables t → is_accepted t r ≡ true → Grown t r
grows-on-sound t r sound ok =
    count-is (handle t r).tables (step-sound t sound r ok)
    ∙ ap (λ (b : Books). pos (length b.records)) (step-books t sound r ok)
    ∙ answered-growth (books_of t) (sound-books t sound) r (accepted-rows t r ok)
    ∙ ap (λ (c : ℤ). c +ℤ rows_answered (plan_reply (plan_on (books_of t) r))) (sym (count-is t sound))
    ∙ ap (λ (reply : Reply). count_of t.records +ℤ rows_answered reply) (sym (accepted-reply t r ok))

-- Of a request that leaves cell 0 and whose answer names no row.
grows-by-none : (t : Tables) (r : Request) → count_of (handle t r).tables.records ≡ count_of t.records → rows_answered (handle t r).reply ≡ pos 0 → Grown t r
grows-by-none t r stays no_row =
    stays ∙ sym (+ℤ_idr (count_of t.records)) ∙ ap (λ (rows : ℤ). count_of t.records +ℤ rows) (sym no_row)

lineage-names-none : (o : Option Origin) → rows_answered (lineage_reply o) ≡ pos 0
unfolding lineage_reply
lineage-names-none none = refl
lineage-names-none (some o) = refl

-- Beside sound processes: each request that books is accepted on sound tables alone; a lineage leaves the tables, a new day cell 0.
grows-beside-sound : (t : Tables) → sound_processes t.processes ≡ true → (r : Request) → is_accepted t r ≡ true → Grown t r
unfolding plan_of trade_plan separation_plan transfer_plan merge_plan lineage_plan give_up_plan give_up_effects plan_reply
grows-beside-sound t h (trade id account series side quantity price) ok =
    let r : Request = trade id account series side quantity price in
    grows-on-sound t r (all_sound t r (booked-on-sound t r _ _ refl ok) h) ok
grows-beside-sound t h (separate id suffix account series parts) ok =
    let r : Request = separate id suffix account series parts in
    grows-on-sound t r (all_sound t r (booked-on-sound t r _ _ refl ok) h) ok
grows-beside-sound t h (transfer id suffix from to series) ok =
    let r : Request = transfer id suffix from to series in
    grows-on-sound t r (all_sound t r (booked-on-sound t r _ _ refl ok) h) ok
grows-beside-sound t h (merge id account series pairs) ok =
    let r : Request = merge id account series pairs in
    grows-on-sound t r (all_sound t r (booked-on-sound t r _ _ refl ok) h) ok
grows-beside-sound t h (lineage id suffix) ok =
    let r : Request = lineage id suffix in
    grows-by-none t r (ap (λ (u : Tables). count_of u.records) (lineage-stays t id suffix)) (ap (λ (reply : Reply). rows_answered reply) (accepted-reply t r ok) ∙ lineage-names-none _)
grows-beside-sound t h (give_up step process id suffix giving taking series) ok =
    let r : Request = give_up step process id suffix giving taking series in
    grows-on-sound t r (all_sound t r (booked-on-sound t r _ _ refl ok) h) ok
grows-beside-sound t h (new_day day) ok = grows-by-none t (new_day day) (day-count t day ok) (ap (λ (reply : Reply). rows_answered reply) (day-reply t day ok))

-- Beside other processes no step is accepted, and what others do is the same beside any.
accepted-grows : (t : Tables) (r : Request) → is_accepted t r ≡ true → Grown t r
accepted-grows t r ok = go (split (sound_processes t.processes))
  where
    two : Tables
    two = tables_of t.records t.positions

    go : (sound_processes t.processes ≡ true) ⊎ (sound_processes t.processes ≡ false) → Grown t r
    go (inl sound) = grows-beside-sound t sound r ok
    go (inr unsound) =
        let n : is_step r ≡ false = no_step t r ok unsound in
        let e : handle t r ≡ with_answer t.processes (handle two r) = apart-promised t r n in
        ap (λ (a : Answer). count_of a.tables.records) e
        ∙ grows-beside-sound two no-processes-sound r (sym (accepts-as t.processes two r n) ∙ ok)
        ∙ ap (λ (a : Answer). count_of t.records +ℤ rows_answered a.reply) (sym e)

-- Whatever the tables and the request, cell 0 grows by the rows that the answer names: those of `booked`, 1 for a closing error, 0 for a lineage, a new day and a refusal.
pub count-grows : (t : Tables) (r : Request) → count_of (handle t r).tables.records ≡ count_of t.records +ℤ rows_answered (handle t r).reply
unfolding refused_by
count-grows t r = go (split (is_accepted t r))
  where
    go : (is_accepted t r ≡ true) ⊎ (is_accepted t r ≡ false) → Grown t r
    go (inl ok) = accepted-grows t r ok
    go (inr not-ok) = grows-by-none t r (ap (λ (u : Tables). count_of u.records) (refused-tables t r not-ok)) (ap (λ (reply : Reply). rows_answered reply) (not-accepted-refused t r not-ok).2)

-- A merge books, so it is accepted on sound tables alone.
merge-on-sound : (t : Tables) (id account series : ℤ) (pairs : List ℤ) → sound_processes t.processes ≡ true → is_accepted t (merge id account series pairs) ≡ true → SoundTables t
unfolding plan_of merge_plan
merge-on-sound t id account series pairs h ok = all_sound t (merge id account series pairs) (booked-on-sound t (merge id account series pairs) _ _ refl ok) h

merge-no-step : (id account series : ℤ) (pairs : List ℤ) → is_step (merge id account series pairs) ≡ false
unfolding is_step
merge-no-step id account series pairs = refl

-- What is to be shown: of the call's own reply and tables.
abbrev MarginKept : Tables → (id account series : ℤ) → List ℤ → Type 0
MarginKept t id account series pairs =
    MergeKeepsMargin (books_of t) (handle t (merge id account series pairs)).reply (books_of (handle t (merge id account series pairs)).tables) id account series pairs

kept-beside-sound : (t : Tables) (id account series : ℤ) (pairs : List ℤ) → sound_processes t.processes ≡ true → is_accepted t (merge id account series pairs) ≡ true → MarginKept t id account series pairs
kept-beside-sound t id account series pairs h ok =
    let r : Request = merge id account series pairs in
    subst (λ (b : Books). MergeKeepsMargin (books_of t) (handle t r).reply b id account series pairs) (sym (step-books t (merge-on-sound t id account series pairs h ok) r ok))
    (subst (λ (reply : Reply). MergeKeepsMargin (books_of t) reply (after (books_of t) r) id account series pairs) (sym (accepted-reply t r ok))
    (merge-keeps-margin (books_of t) id account series pairs (accepted-rows t r ok)))

-- The margin is one of records and positions: beside another process table it is kept too.
kept-beside : (processes : List ℤ) (before afterwards : Tables) (reply : Reply) (id account series : ℤ) (pairs : List ℤ) →
    MergeKeepsMargin (books_of before) reply (books_of afterwards) id account series pairs →
    MergeKeepsMargin (books_of (with_processes processes before)) reply (books_of (with_processes processes afterwards)) id account series pairs
unfolding books_of view_of
kept-beside processes before afterwards reply id account series pairs k = record {
  merged = k.merged;
  rows = k.rows;
  residual = k.residual;
  stands = k.stands;
  answered = k.answered;
  grown = k.grown;
  kept = λ s.
      ap (λ (sources : List Source). margin_of_all s (records_of sources))
      (same-sources (view_of (books_of (with_processes processes before))) (view_of (books_of before)) (pairs_of pairs) (record { record-at = λ id n suffix. refl; greatest-at = λ id n. refl }))
      ∙ k.kept s;
}

-- For each accepted merge: the margin of the sources, as they stood before, equals that of the merged record, as it stands afterwards, plus the residual.
pub margin-kept : (t : Tables) (id account series : ℤ) (pairs : List ℤ) → is_accepted t (merge id account series pairs) ≡ true →
    MergeKeepsMargin (books_of t) (handle t (merge id account series pairs)).reply (books_of (handle t (merge id account series pairs)).tables) id account series pairs
margin-kept t id account series pairs ok =
    let r : Request = merge id account series pairs in
    let two : Tables = tables_of t.records t.positions in
    let e : handle t r ≡ with_answer t.processes (handle two r) = apart-promised t r (merge-no-step id account series pairs) in
    subst (λ (a : Answer). MergeKeepsMargin (books_of t) a.reply (books_of a.tables) id account series pairs) (sym e)
    (kept-beside t.processes two (handle two r).tables (handle two r).reply id account series pairs
    (kept-beside-sound two id account series pairs no-processes-sound (sym (accepts-as t.processes two r (merge-no-step id account series pairs)) ∙ ok)))
