-- The booking of an accepted merge, step by step over the cells: the sources adjusted, their inverses inserted, the merged row inserted, the position put.
-- What each step asks of the tables before it, and that the last leaves what the rules say. By the laws of the single steps. Assumes nothing.
use Prim.Native.Nat.{ℕ, ◌+◌, ◌/◌, ◌≤◌, ◌<◌}
use native.Mathlib.Omega.{arith}
use mathlib.Core.Path.{◌≡◌, refl, sym, ◌∙◌, ap}
use mathlib.Core.Bool.{true, not}
use mathlib.Core.List.{List, [], ◌∷◌, ◌++◌, map}
use mathlib.Core.Option.{none}
use lib.IntN.{ℤ, pos, ◌+ℤ◌}
use lib.ListN.{length, length-append}
use Rattle.rules.specs.Keyed.{Key, is_some, find, upsert, upsert_all}
use Rattle.rules.specs.Rows.{record_key, position_key, adjusted_record, sound_record}
use Rattle.rules.specs.Refusal.{all_of}
use Rattle.rules.specs.Request.{merge}
use Rattle.rules.specs.Books.{view_of}
use Rattle.rules.specs.Plan.{plan_reply, booked}
use Rattle.rules.specs.Handle.{Answer, plan_of, plan_tables, written_by, answered}
use Rattle.rules.specs.Layout.{room_of, rows_of, write}
use Rattle.rules.specs.Tables.{current_day, books_of, write_books, records_layout, positions_layout, sound_record_rows, tables_of}
use Rattle.rules.specs.Merge.{Source, pairs_of, sources_of, records_of, merge_inverses, merged_record, merge_residual, merge_plan}
use Rattle.rules.specs.declared.Record.{Record}
use Rattle.rules.specs.declared.Position.{Position}
use Rattle.rules.specs.declared.Reply.TheVariants.{Booked}
use Rattle.cells.specs.SoundTable.{SoundRecords}
use Rattle.cells.proofs.RowCells.{records-lawful}
use Rattle.cells.proofs.SoundCells.{records-known}
use Rattle.cells.proofs.Write.{rows_write, length-write, room-write, write-write}
use Rattle.keys.proofs.Clauses.{all_of-nil, all_of-intro, all_of-head, all_of-tail, upsert_all-nil, upsert_all-cons}
use Rattle.keys.proofs.Rising.{upsert-longer}
use Rattle.keys.proofs.Folds.{only-tail, upsert_all-append, upsert_all-longer}
use Rattle.keys.proofs.Counts.{distinct, distinct_head, distinct_tail, lacks_all, lacks_all-head, lacks_all-upsert, lacks_all-upsert_all, upsert_all-replaces}
use Rattle.verdict.specs.Verdict.{accepted_on}
use Rattle.merge_sources.specs.Sources.{sources_in, all_found, source_records}
use Rattle.merge_sources.proofs.PairList.{pair-count}
use Rattle.merge_sources.proofs.SourceList.{sources-in-books, source-count}
use Rattle.merge_sources.proofs.Inverses.{inverse-count}
use Rattle.merge_sources.proofs.InTurn.{put_all}
use Rattle.merge_sources.proofs.Settled.{settled}
use Rattle.merge_sources.proofs.Inserting.{inverted-length}
use Rattle.merge_sources.proofs.Adjusting.{adjusted_sources, alike-adjusted}
use Rattle.merge_sources.proofs.AfterAdjusting.{found_alike, inverses-alike}
use Rattle.merge_sources.proofs.MergeVerdict.{merge_position}
use Rattle.merge_sources.proofs.MergeFacts.{rows_added, MergeFacts}

-- ---- rows put in turn

-- After all but the last of rows that the table lacks, each with another key, it lacks the last.
last-absent : (xs t : List Record) (last : Record) → distinct record_key (xs ++ (last ∷ [])) ≡ true → lacks_all record_key t (xs ++ (last ∷ [])) ≡ true →
    find record_key (record_key last) (upsert_all record_key xs t) ≡ none
last-absent [] t last d a = ap (λ (u : List Record). find record_key (record_key last) u) (upsert_all-nil record_key t) ∙ lacks_all-head record_key t last [] a
last-absent (x ∷ rest) t last d a =
    ap (λ (u : List Record). find record_key (record_key last) u) (upsert_all-cons record_key x rest t)
    ∙ last-absent rest (upsert record_key x t) last (distinct_tail record_key x (rest ++ (last ∷ [])) d)
    (lacks_all-upsert record_key x (rest ++ (last ∷ [])) t (distinct_head record_key x (rest ++ (last ∷ [])) d)
    (only-tail record_key (λ (k : Key). not (is_some (find record_key k t))) x (rest ++ (last ∷ [])) a))

first-all : (xs ys : List Record) → all_of (map sound_record (xs ++ ys)) ≡ true → all_of (map sound_record xs) ≡ true
first-all [] ys h = all_of-nil
first-all (x ∷ rest) ys h =
    all_of-intro (sound_record x) (map sound_record rest) (all_of-head (sound_record x) (map sound_record (rest ++ ys)) h)
    (first-all rest ys (all_of-tail (sound_record x) (map sound_record (rest ++ ys)) h))

last-all : (xs ys : List Record) → all_of (map sound_record (xs ++ ys)) ≡ true → all_of (map sound_record ys) ≡ true
last-all [] ys h = h
last-all (x ∷ rest) ys h = last-all rest ys (all_of-tail (sound_record x) (map sound_record (rest ++ ys)) h)

-- ---- the tables after each step

module _ (rs : List ℤ) (id : ℤ) (pairs : List ℤ) where
  abbrev rows : List Record
  rows = rows_of records_layout rs

  abbrev inverses : List Record
  inverses = merge_inverses (current_day rs) id [] (sources_in rs pairs)

  abbrev merged : Record
  merged = merged_record (current_day rs) id (source_records rs pairs)

  abbrev rows_once : List Record
  rows_once = upsert_all record_key (adjusted_sources rs pairs) rows

  abbrev rows_twice : List Record
  rows_twice = upsert_all record_key inverses rows_once

  -- The records table with its sources adjusted; then with their inverses; then with the merged row.
  abbrev pub sources_adjusted : List ℤ
  sources_adjusted = write records_layout rs rows_once

  abbrev pub inverses_inserted : List ℤ
  inverses_inserted = write records_layout sources_adjusted (upsert_all record_key (merge_inverses (current_day rs) id [] (sources_in sources_adjusted pairs)) (rows_of records_layout sources_adjusted))

  abbrev pub records_merged : List ℤ
  records_merged = write records_layout inverses_inserted (upsert record_key merged (rows_of records_layout inverses_inserted))

  rows-once : records_layout.header ≤ length rs → rows_of records_layout sources_adjusted ≡ rows_once
  rows-once headed = rows_write records_layout records-lawful rs rows_once headed

module _ (rs ps : List ℤ) (id account series : ℤ) (pairs : List ℤ) (sound : sound_record_rows rs ≡ true)
    (facts : MergeFacts rs ps id account series pairs (sources_in rs pairs)) where
  pub all-found : all_found rs pairs ≡ true
  all-found = ap not facts.passed.sources-found

  known : SoundRecords rs
  known = records-known rs sound

  headed : records_layout.header ≤ length rs
  headed = known.header-within

  alike : (k : Key) → settled (find record_key k (rows_of records_layout (sources_adjusted rs id pairs))) ≡ settled (find record_key k (rows_of records_layout rs))
  alike k = ap (λ (t : List Record). settled (find record_key k t)) (rows-once rs id pairs headed) ∙ alike-adjusted rs pairs all-found k

  -- ---- the sources adjusted

  once-length : length (rows_once rs id pairs) ≡ length (rows_of records_layout rs)
  once-length = upsert_all-replaces record_key (adjusted_sources rs pairs) (rows_of records_layout rs) known.rows-rise facts.changed-present

  once-room : room_of records_layout (sources_adjusted rs id pairs) ≡ room_of records_layout rs
  once-room =
      let fit : length (rows_of records_layout rs) ≤ room_of records_layout rs = known.rows_fit in
      room-write records_layout records-lawful rs (rows_once rs id pairs) headed (omega (arith, once-length))

  -- The sources adjusted leave the number of cells.
  headed-once : records_layout.header ≤ length (sources_adjusted rs id pairs)
  headed-once =
      let fit : length (rows_of records_layout rs) ≤ room_of records_layout rs = known.rows_fit in
      omega (arith, length-write records_layout records-lawful rs (rows_once rs id pairs) headed (omega (arith, once-length)), headed)

  pub found-adjusted : all_found (sources_adjusted rs id pairs) pairs ≡ true
  found-adjusted = found_alike rs (sources_adjusted rs id pairs) pairs alike all-found

  same-inverses : merge_inverses (current_day rs) id [] (sources_in (sources_adjusted rs id pairs) pairs) ≡ merge_inverses (current_day rs) id [] (sources_in rs pairs)
  same-inverses = inverses-alike rs (sources_adjusted rs id pairs) pairs alike (current_day rs) id

  pub inverses-sound : all_of (map sound_record (merge_inverses (current_day rs) id [] (sources_in (sources_adjusted rs id pairs) pairs))) ≡ true
  inverses-sound =
      ap (λ (l : List Record). all_of (map sound_record l)) same-inverses
      ∙ first-all (merge_inverses (current_day rs) id [] (sources_in rs pairs)) (merged rs id pairs ∷ []) facts.added-sound

  many : length (merge_inverses (current_day rs) id [] (sources_in rs pairs)) ≡ length pairs / 2
  many = inverse-count (current_day rs) id [] (sources_in rs pairs) ∙ source-count rs pairs

  pub inverses-room : length (rows_of records_layout (sources_adjusted rs id pairs)) + length (pairs_of pairs) ≤ room_of records_layout (sources_adjusted rs id pairs)
  inverses-room =
      let room : length (rows_of records_layout rs) + length (rows_added (current_day rs) id (sources_in rs pairs)) ≤ room_of records_layout rs = facts.records-room in
      omega (
        arith,
        once-length,
        once-room,
        ap (λ (t : List Record). length t) (rows-once rs id pairs headed),
        pair-count pairs,
        many,
        length-append (merge_inverses (current_day rs) id [] (sources_in rs pairs)) (merged rs id pairs ∷ []),
      )

  -- ---- the inverses inserted

  rows-twice : rows_of records_layout (inverses_inserted rs id pairs) ≡ rows_twice rs id pairs
  rows-twice =
      rows_write records_layout records-lawful (sources_adjusted rs id pairs)
      (upsert_all record_key (merge_inverses (current_day rs) id [] (sources_in (sources_adjusted rs id pairs) pairs)) (rows_of records_layout (sources_adjusted rs id pairs)))
      headed-once
      ∙ ap (λ (l : List Record). upsert_all record_key l (rows_of records_layout (sources_adjusted rs id pairs))) same-inverses
      ∙ ap (λ (t : List Record). upsert_all record_key (merge_inverses (current_day rs) id [] (sources_in rs pairs)) t) (rows-once rs id pairs headed)

  lacks-once : lacks_all record_key (rows_once rs id pairs) (rows_added (current_day rs) id (sources_in rs pairs)) ≡ true
  lacks-once = lacks_all-upsert_all record_key (adjusted_sources rs pairs) (rows_added (current_day rs) id (sources_in rs pairs)) (rows_of records_layout rs) facts.changed-present facts.added-absent

  pub merged-absent : find record_key (record_key (merged rs id pairs)) (rows_of records_layout (inverses_inserted rs id pairs)) ≡ none
  merged-absent =
      ap (λ (t : List Record). find record_key (record_key (merged rs id pairs)) t) rows-twice
      ∙ last-absent (merge_inverses (current_day rs) id [] (sources_in rs pairs)) (rows_once rs id pairs) (merged rs id pairs) facts.added-distinct lacks-once

  pub merged-sound : sound_record (merged rs id pairs) ≡ true
  merged-sound = all_of-head (sound_record (merged rs id pairs)) [] (last-all (merge_inverses (current_day rs) id [] (sources_in rs pairs)) (merged rs id pairs ∷ []) facts.added-sound)

  twice-length : length (rows_of records_layout (inverses_inserted rs id pairs)) ≡ length (rows_of records_layout rs) + length pairs / 2
  twice-length =
      let cells : List ℤ = sources_adjusted rs id pairs in
      let new : List Record = merge_inverses (current_day rs) id [] (sources_in cells pairs) in
      ap (λ (t : List Record). length t)
      (rows_write records_layout records-lawful cells (upsert_all record_key new (rows_of records_layout cells)) headed-once
      ∙ sym (put_all record_key new (rows_of records_layout cells) (length pairs / 2) (omega (arith, ap (λ (l : List Record). length l) same-inverses, many))))
      ∙ inverted-length (current_day rs) id cells pairs found-adjusted (length pairs / 2) (omega arith)
      ∙ ap (λ (n : ℕ). n + length pairs / 2) (ap (λ (t : List Record). length t) (rows-once rs id pairs headed) ∙ once-length)

  pub merged-room : length (rows_of records_layout (inverses_inserted rs id pairs)) < room_of records_layout (inverses_inserted rs id pairs)
  merged-room =
      let cells : List ℤ = sources_adjusted rs id pairs in
      let put : List Record = upsert_all record_key (merge_inverses (current_day rs) id [] (sources_in cells pairs)) (rows_of records_layout cells) in
      let room : length (rows_of records_layout rs) + length (rows_added (current_day rs) id (sources_in rs pairs)) ≤ room_of records_layout rs = facts.records-room in
      let fit : length (rows_of records_layout rs) ≤ room_of records_layout rs = known.rows_fit in
      let added : length (rows_added (current_day rs) id (sources_in rs pairs)) ≡ length pairs / 2 + 1 =
      omega (arith, length-append (merge_inverses (current_day rs) id [] (sources_in rs pairs)) (merged rs id pairs ∷ []), many) in
      let put-length : length put ≡ length (rows_of records_layout rs) + length pairs / 2 =
      ap (λ (t : List Record). length t) (sym (rows_write records_layout records-lawful cells put headed-once)) ∙ twice-length in
      let same-room : room_of records_layout (inverses_inserted rs id pairs) ≡ room_of records_layout cells =
      room-write records_layout records-lawful cells put headed-once (omega (arith, once-room)) in
      omega (arith, twice-length, once-room)

  -- ---- the merged row inserted

  records-merged : records_merged rs id pairs ≡ write records_layout rs (upsert_all record_key (adjusted_sources rs pairs ++ rows_added (current_day rs) id (sources_in rs pairs)) (rows_of records_layout rs))
  records-merged =
      let cells : List ℤ = sources_adjusted rs id pairs in
      let once : List Record = rows_once rs id pairs in
      let twice : List Record = rows_twice rs id pairs in
      let last : Record = merged rs id pairs in
      let inserted : inverses_inserted rs id pairs ≡ write records_layout cells twice =
      ap (λ (t : List Record). write records_layout cells t)
      (sym (rows_write records_layout records-lawful cells (upsert_all record_key (merge_inverses (current_day rs) id [] (sources_in cells pairs)) (rows_of records_layout cells)) headed-once) ∙ rows-twice) in
      ap (λ (t : List Record). write records_layout (inverses_inserted rs id pairs) (upsert record_key last t)) rows-twice
      ∙ ap (λ (xs : List ℤ). write records_layout xs (upsert record_key last twice)) inserted
      ∙ write-write records_layout records-lawful cells twice (upsert record_key last twice) headed-once (upsert-longer record_key last twice)
      ∙ write-write records_layout records-lawful rs once (upsert record_key last twice) headed
      (omega (arith, upsert_all-longer record_key (merge_inverses (current_day rs) id [] (sources_in rs pairs)) once, upsert-longer record_key last twice))
      ∙ ap (λ (t : List Record). write records_layout rs t)
      (sym
      (upsert_all-append record_key (adjusted_sources rs pairs) (rows_added (current_day rs) id (sources_in rs pairs)) (rows_of records_layout rs)
      ∙ upsert_all-append record_key (merge_inverses (current_day rs) id [] (sources_in rs pairs)) (last ∷ []) once
      ∙ upsert_all-cons record_key last [] twice
      ∙ upsert_all-nil record_key (upsert record_key last twice)))

  -- ---- the answer and both tables

  -- What the rules say of these sources.
  abbrev ruled : List Source → Answer
  ruled sources =
      answered (Booked (pos (length sources) +ℤ pos 1) (merge_residual (records_of sources)))
      (write records_layout rs (upsert_all record_key (map adjusted_record (records_of sources) ++ rows_added (current_day rs) id sources) (rows_of records_layout rs)))
      (write positions_layout ps (upsert_all position_key (merge_position ps account series (records_of sources) ∷ []) (rows_of positions_layout ps)))

  ruled-accepted : accepted_on rs ps (merge id account series pairs) ≡ ruled (sources_of (view_of (books_of (tables_of rs ps))) (pairs_of pairs))
  unfolding accepted_on plan_of merge_plan view_of books_of plan_reply plan_tables written_by write_books booked
  ruled-accepted = refl

  pub merge-booked : accepted_on rs ps (merge id account series pairs)
      ≡ answered (Booked (pos (length pairs / 2) +ℤ pos 1) (merge_residual (source_records rs pairs))) (records_merged rs id pairs)
      (write positions_layout ps (upsert position_key (merge_position ps account series (source_records rs pairs)) (rows_of positions_layout ps)))
  merge-booked =
      let p : Position = merge_position ps account series (source_records rs pairs) in
      ruled-accepted
      ∙ ap ruled (sym (sources-in-books rs pairs ps))
      ∙ (λ i. answered (Booked (pos (source-count rs pairs i) +ℤ pos 1) (merge_residual (source_records rs pairs))) (sym records-merged i)
      (write positions_layout ps ((upsert_all-cons position_key p [] (rows_of positions_layout ps) ∙ upsert_all-nil position_key (upsert position_key p (rows_of positions_layout ps))) i)))
