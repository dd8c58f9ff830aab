-- What an accepted merge on sound tables has passed and puts, over the cells of the tables: the tests, its rows new, distinct and sound, and room for them.
-- By the laws of acceptance. Assumes nothing.
use Prim.Native.Nat.{ℕ, ◌+◌, ◌/◌, ◌%◌, ◌≤◌}
use native.Mathlib.Omega.{arith}
use mathlib.Core.Path.{◌≡◌, sym, subst}
use mathlib.Core.Bool.{Bool, true, ◌&&◌}
use mathlib.Core.List.{List, [], ◌∷◌, ◌++◌, map}
use borrow.Author.Tests.{leb-true, eqb-true}
use lib.Dec.{leb, eqb}
use lib.IntN.{ℤ}
use lib.ListN.{length}
use Rattle.rules.specs.Figures.{valid_id, valid_account, valid_series, valid_count}
use Rattle.rules.specs.Keyed.{greatest, absent_from}
use Rattle.rules.specs.Rows.{record_key, position_key, adjusted_record, sound_record, sound_position}
use Rattle.rules.specs.Refusal.{all_of}
use Rattle.rules.specs.Request.{merge}
use Rattle.rules.specs.Books.{Books, view_of}
use Rattle.rules.specs.Handle.{plan_of}
use Rattle.rules.specs.Layout.{room_of, rows_of}
use Rattle.rules.specs.Tables.{current_day, books_of, records_layout, positions_layout, sound_records, sound_positions, tables_of}
use Rattle.rules.specs.Merge.{Source, pairs_of, valid_pair, merge_figures, sources_of, records_of, merge_inverses, merged_record, merge_plan}
use Rattle.rules.specs.declared.Record.{Record}
use Rattle.keys.proofs.Split.{and_left, and_right}
use Rattle.keys.proofs.Clauses.{all_of-head}
use Rattle.keys.proofs.Counts.{distinct, has_all, lacks_all}
use Rattle.soundness.specs.SoundBooks.{SoundBooks, plan_on, Accepts}
use Rattle.soundness.proofs.Accepted.{booking-passed}
use Rattle.soundness.proofs.BookingFacts.{PlanFacts}
use Rattle.soundness.proofs.Merge.{merge-facts}
use Rattle.soundness.proofs.MergeAccepted.{MergePassed, merge-passed}
use Rattle.verdict.specs.Verdict.{verdict_on}
use Rattle.verdict.specs.Verdict.{Accepted}
use Rattle.verdict.proofs.Acceptance.{sound-books, accepted-accepts}
use Rattle.merge_sources.specs.Sources.{sources_in}
use Rattle.merge_sources.proofs.PairList.{pair-count}
use Rattle.merge_sources.proofs.SourceList.{sources-in-books}
use Rattle.merge_sources.proofs.MergeVerdict.{merge_position}

-- ---- figures

-- 2 to 1,000 sources.
pub figures-count : (id account series : ℤ) (pairs : List ℤ) → merge_figures id account series pairs ≡ true → (2 ≤ length pairs / 2) × (length pairs ≤ 2000)
unfolding merge_figures valid_count
figures-count id account series pairs h =
    let f : Bool = valid_id id && valid_account account && valid_series series in
    let even : Bool = eqb (length pairs % 2) 0 in
    let n : ℕ = length (pairs_of pairs) in
    let c : Bool = leb 2 n && leb n 1000 in
    let v : Bool = all_of (map valid_pair (pairs_of pairs)) in
    let several : c ≡ true = and_right (f && even) c (and_left (f && even && c) v h) in
    let low : 2 ≤ n = leb-true 2 n (and_left (leb 2 n) (leb n 1000) several) in
    let high : n ≤ 1000 = leb-true n 1000 (and_right (leb 2 n) (leb n 1000) several) in
    let whole : length pairs % 2 ≡ 0 = eqb-true (length pairs % 2) 0 (and_right f even (and_left (f && even) c (and_left (f && even && c) v h))) in
    (omega (arith, pair-count pairs), omega (arith, pair-count pairs))

-- ---- acceptance

-- The rows that a merge of these sources adds.
abbrev pub rows_added : (today id : ℤ) → List Source → List Record
rows_added today id sources = merge_inverses today id [] sources ++ (merged_record today id (records_of sources) ∷ [])

pub record MergeFacts (rs ps : List ℤ) (id account series : ℤ) (pairs : List ℤ) (sources : List Source) : Type 0 where
  pub passed : MergePassed id account series pairs (greatest record_key id (rows_of records_layout rs)) sources
  pub changed-present : has_all record_key (rows_of records_layout rs) (map adjusted_record (records_of sources)) ≡ true
  pub added-absent : lacks_all record_key (rows_of records_layout rs) (rows_added (current_day rs) id sources) ≡ true
  pub added-distinct : distinct record_key (rows_added (current_day rs) id sources) ≡ true
  pub added-sound : all_of (map sound_record (rows_added (current_day rs) id sources)) ≡ true
  pub records-room : length (rows_of records_layout rs) + length (rows_added (current_day rs) id sources) ≤ room_of records_layout rs
  pub positions-room : length (rows_of positions_layout ps) + absent_from position_key (rows_of positions_layout ps) (merge_position ps account series (records_of sources) ∷ []) ≤ room_of positions_layout ps
  pub position-sound : sound_position (merge_position ps account series (records_of sources)) ≡ true

module _ (rs ps : List ℤ) (id account series : ℤ) (pairs : List ℤ) where
  abbrev books : Books
  books = books_of (tables_of rs ps)

  of_books : SoundBooks books → Accepts books (merge id account series pairs) → MergeFacts rs ps id account series pairs (sources_of (view_of books) (pairs_of pairs))
  unfolding plan_of merge_plan view_of books_of
  of_books sound accepts =
      let facts : PlanFacts books (plan_on books (merge id account series pairs)) = merge-facts books sound id account series pairs accepts in
      let room = booking-passed books _ _ accepts in
      record {
        passed = merge-passed books id account series pairs accepts;
        changed-present = facts.changed-present;
        added-absent = facts.added-absent;
        added-distinct = facts.added-distinct;
        added-sound = facts.added-sound;
        records-room = room.records-room;
        positions-room = room.positions-room;
        position-sound = all_of-head (sound_position (merge_position ps account series (records_of (sources_of (view_of books) (pairs_of pairs))))) [] room.positions-sound;
      }

  pub merge-accepted-facts : sound_records rs ≡ true → sound_positions ps ≡ true → verdict_on rs ps (merge id account series pairs) ≡ Accepted →
      MergeFacts rs ps id account series pairs (sources_in rs pairs)
  merge-accepted-facts sr sp ok =
      subst (λ (sources : List Source). MergeFacts rs ps id account series pairs sources) (sym (sources-in-books rs pairs ps))
      (of_books (sound-books rs ps sr sp) (accepted-accepts rs ps (merge id account series pairs) ok))
