-- What an accepted merge comes to: its sums and residual, the merged row, the position that it leaves. Assumes nothing.
use Prim.Native.Nat.{◌+◌, ◌/◌, ◌≤◌}
use native.Mathlib.Omega.{arith}
use mathlib.Core.Path.{◌≡◌, sym, ◌∙◌, ap, ap₂}
use mathlib.Core.Bool.{Bool, true, false}
use mathlib.Core.List.{List, [], ◌∷◌}
use mathlib.Core.Option.{some}
use lib.IntN.{ℤ, pos}
use lib.ListN.{length}
use Rattle.integers.specs.Average.{average_of, residual_of}
use Rattle.integers.specs.Averageable.{Averageable}
use Rattle.rules.specs.Figures.{magnitude_at_most, is_buy, merge_kind}
use Rattle.rules.specs.Keyed.{Key, find, absent_from}
use Rattle.rules.specs.Rows.{record_key, position_key, sound_position, new_record, by_residual, moved}
use Rattle.rules.specs.Refusal.{any_of}
use Rattle.rules.specs.Layout.{room_of, rows_of}
use Rattle.rules.specs.Tables.{current_day, sound_record_rows, records_layout, positions_layout, sound_positions}
use Rattle.rules.specs.Merge.{pairs_of, first_of, sum_of_quantities, sum_of_values, merge_residual, merged_record}
use Rattle.rules.specs.declared.Record.{Record}
use Rattle.rules.specs.declared.Position.{Position}
use Rattle.rules.specs.declared.Movement.{Movement}
use Rattle.lookup.specs.Lookup.{found_in}
use Rattle.lookup.specs.Found.{Found, found_told}
use Rattle.cells.proofs.SoundCells.{record-rows-sound}
use Rattle.soundness.proofs.ReadPosition.{read-key}
use Rattle.verdict.specs.MovedReady.{MovedReady}
use Rattle.verdict.proofs.Moves.{merge-moves}
use Rattle.verdict.proofs.Room.{position_read}
use Rattle.verdict.proofs.SoundReads.{position-read-sound}
use Rattle.requests.specs.declared.Held.{Held}
use Rattle.merge_sources.specs.Sources.{sources_in, source_records, all_found}
use Rattle.merge_sources.specs.Pairs.{pair_at, repeats_from}
use Rattle.merge_sources.specs.declared.Source.{Source}
use Rattle.merge_sources.proofs.SourceList.{record-found, first-at}
use Rattle.merge_sources.proofs.Earlier.{sources-stood-earlier}
use Rattle.merge_sources.proofs.SourceSums.{sources-averageable}
use Rattle.merge_sources.proofs.SumRanges.{residual-small}
use Rattle.merge_sources.proofs.MergeVerdict.{merge_position}
use Rattle.merge_sources.proofs.MergeFacts.{MergeFacts, figures-count, merge-accepted-facts}
use Rattle.merge_sources.proofs.MergeBooking.{all-found}
use Rattle.merge.specs.MergeAccepted.{MergeAccepted}

-- What `write_position` asks.
abbrev pub WriteReady : List ℤ → Found → Position → Type 0
WriteReady cells found p =
    (sound_positions cells ≡ true) × (sound_position p ≡ true)
    × (length (rows_of positions_layout cells) + absent_from position_key (rows_of positions_layout cells) (p ∷ []) ≤ room_of positions_layout cells)
    × (found ≡ found_in positions_layout (position_key p) cells)

module _ {rs ps : List ℤ} {held : Held} {id account series : ℤ} {list : List ℤ} {kept : List Source} (g : MergeAccepted rs ps held id account series list kept) where
  abbrev sources : List Record
  sources = source_records rs list

  pub rows_sound : sound_record_rows rs ≡ true
  rows_sound = record-rows-sound rs g.records-sound

  pub facts : MergeFacts rs ps id account series list (sources_in rs list)
  facts = merge-accepted-facts rs ps id account series list g.records-sound g.positions-sound g.accepted

  pub found : all_found rs list ≡ true
  found = all-found rs ps id account series list rows_sound facts

  pub count : (2 ≤ length list / 2) × (length list ≤ 2000)
  count = figures-count id account series list facts.passed.figures

  pub differ : any_of (repeats_from [] (pairs_of list)) ≡ false
  differ = ap any_of (sym (sources-stood-earlier rs list)) ∙ facts.passed.sources-differ

  pub averageable : Averageable (sum_of_values (source_records rs list)) (sum_of_quantities (source_records rs list))
  averageable = sources-averageable rs list rows_sound found facts.passed.sources-adjustable facts.passed.sum-small (omega (arith, count.0))

  small-residual : magnitude_at_most 1000000 (merge_residual sources) ≡ true
  unfolding merge_residual
  small-residual = residual-small _ (sum_of_values sources) (sum_of_quantities sources) averageable

  -- ---- of the code's figures

  first-is : (first : Record) → find record_key (pair_at list 0) (rows_of records_layout rs) ≡ some first → first ≡ first_of (source_records rs list)
  first-is first e = sym (first-at rs list ∙ record-found rs list 0 (omega (arith, count.0)) first e)

  pub residual-of : (first : Record) (value quantity residual : ℤ) (buy : Bool) → find record_key (pair_at list 0) (rows_of records_layout rs) ≡ some first →
      value ≡ sum_of_values (source_records rs list) → quantity ≡ sum_of_quantities (source_records rs list) → buy ≡ is_buy first.side →
      residual ≡ residual_of buy value quantity → residual ≡ merge_residual (source_records rs list)
  unfolding merge_residual
  residual-of first value quantity residual buy e v q b r =
      r ∙ (λ i. residual_of ((b ∙ ap (λ (x : Record). is_buy x.side) (first-is first e)) i) (v i) (q i))

  pub merged-of : (first : Record) (today value quantity price : ℤ) → find record_key (pair_at list 0) (rows_of records_layout rs) ≡ some first →
      today ≡ current_day rs → value ≡ sum_of_values (source_records rs list) → quantity ≡ sum_of_quantities (source_records rs list) → price ≡ average_of value quantity →
      new_record today id merge_kind first.account first.series first.side quantity price (pos 0) (pos 0) ≡ merged_record (current_day rs) id (source_records rs list)
  unfolding merged_record
  merged-of first today value quantity price e t v q p =
      let f : first ≡ first_of sources = first-is first e in
      let a : price ≡ average_of (sum_of_values sources) (sum_of_quantities sources) = p ∙ ap₂ (λ (y z : ℤ). average_of y z) v q in
      λ i. new_record (t i) id merge_kind (f i).account (f i).series (f i).side (q i) (a i) (pos 0) (pos 0)

  pub left-of : (m : Movement) (p : Position) (residual : ℤ) → residual ≡ merge_residual (source_records rs list) → m ≡ by_residual residual → p ≡ moved held.position m →
      p ≡ merge_position ps account series (source_records rs list)
  left-of m p residual r e f = f ∙ ap₂ (λ (x : Position) (y : Movement). moved x y) g.position-known.read_is (e ∙ ap by_residual r)

  pub movable : (m : Movement) (residual : ℤ) → residual ≡ merge_residual (source_records rs list) → m ≡ by_residual residual → MovedReady held.position m
  movable m residual r e =
      rw (g.position-known.read_is, e ∙ ap by_residual r)
      (merge-moves (position_read ps account series) (merge_residual sources) (position-read-sound ps g.positions-sound account series) small-residual)

  pub writable : WriteReady ps (found_told held.found) (merge_position ps account series (source_records rs list))
  unfolding moved
  writable = (
    g.positions-sound,
    facts.position-sound,
    facts.positions-room,
    g.position-known.found-is ∙ ap (λ (k : Key). found_in positions_layout k ps) (sym (read-key account series (rows_of positions_layout ps))),
  )
