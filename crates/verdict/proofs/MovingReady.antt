-- What the booking of a record that moves to another account requires, step by step, and what it comes to. Assumes nothing.
use mathlib.Core.Path.{◌≡◌, refl, ◌∙◌, ap, subst}
use mathlib.Core.Bool.{Bool, true, false}
use mathlib.Core.List.{List, [], ◌∷◌, ◌++◌}
use mathlib.Core.Option.{Option, none, some}
use lib.IntN.{ℤ, pos, ◌+ℤ◌}
use lib.Signed.{lt_z, ◌≤ℤ◌}
use Rattle.integers.specs.Order.{eq_z}
use Rattle.integers.proofs.Linear.{zarith}
use Rattle.rules.specs.Figures.{valid_account, is_buy, inverse, transfer_kind, greatest_of_suffixes}
use Rattle.rules.specs.Keyed.{Key, find, is_some}
use Rattle.rules.specs.Rows.{key_of, record_key, position_key, adjusted_record, inverse_record, adjustable_record, sound_record, valid_kind, moved, or_zeros, zero_position}
use Rattle.rules.specs.NamedRecord.{the_record}
use Rattle.rules.specs.Refusal.{Test, test, first_refusal}
use Rattle.rules.specs.Plan.{Effects, booking, plan_tests, suffix_is_above}
use Rattle.rules.specs.Transfer.{holds_too_little}
use Rattle.rules.specs.Layout.{rows_of}
use Rattle.rules.specs.Tables.{current_day, books_of, records_layout, positions_layout, sound_records, sound_positions, tables_of}
use Rattle.rules.specs.declared.Record.{Record}
use Rattle.rules.specs.declared.Position.{Position}
use Rattle.keys.proofs.Clauses.{all_of-head, all_of-tail}
use Rattle.keys.proofs.Split.{Found, absent, present, found}
use Rattle.cells.proofs.RowCells.{positions-lawful}
use Rattle.cells.proofs.SoundCells.{record-rows-sound, days-sound, records-known, positions-known}
use Rattle.soundness.proofs.Accepted.{own-passed, booking-passed}
use Rattle.soundness.proofs.BookingFacts.{BookingFacts}
use Rattle.soundness.proofs.FigureRanges.{suffix-range}
use Rattle.soundness.proofs.NamedRecord.{next_of, Named, named-open}
use Rattle.soundness.proofs.ReadPosition.{read-key}
use Rattle.soundness.proofs.SoundRecord.{record-sound}
use Rattle.soundness.proofs.SoundRows.{open-quantity}
use Rattle.soundness.proofs.Transfer.{transfer-effects-facts}
use Rattle.verdict.specs.Moving.{moving_effects, moving_verdict, positions_after}
use Rattle.verdict.specs.Verdict.{Accepted}
use Rattle.verdict.proofs.Acceptance.{none-accepted}
use Rattle.verdict.proofs.Moving.{moving_inverse, moving_arrived, moving_old, moving_new, moving-types}
use Rattle.verdict.proofs.Puts.{put_one, put-one, put-none, put_next}
use Rattle.verdict.proofs.Ready.{Ready, ready, PutReady, put-ready}
use Rattle.verdict.proofs.Room.{position_read}
use Rattle.verdict.proofs.SoundReads.{found-record, next-range}

-- What is known of a record that may move: it is there and no inverse, and no refusal from 12 on applies.
pub record Movable (rs ps : List ℤ) (id suffix from to series inverse_kind new_kind : ℤ) (r : Record) : Type 0 where
  pub records-sound : sound_records rs ≡ true
  pub positions-sound : sound_positions ps ≡ true
  pub named : find record_key (key_of id suffix) (rows_of records_layout rs) ≡ some r
  pub not-inverse : eq_z r.status inverse ≡ false
  pub accounts-differ : eq_z from to ≡ false
  pub to-valid : valid_account to ≡ true
  pub inverse-kind : valid_kind inverse_kind ≡ true
  pub new-kind : valid_kind new_kind ≡ true
  pub accepted : moving_verdict rs ps r id from to series ≡ Accepted

module _ (rs ps : List ℤ) (id suffix from to series inverse_kind new_kind : ℤ) (r : Record) (may : Movable rs ps id suffix from to series inverse_kind new_kind r) where
  abbrev next : ℤ
  next = next_of (rows_of records_layout rs) id

  abbrev effects : Effects
  effects = moving_effects inverse_kind new_kind rs ps r id from to series

  abbrev tests : List Test
  tests = test 12 (holds_too_little r (position_read ps from series)) ∷ []

  -- ---- what is required

  accepts : first_refusal (plan_tests (books_of (tables_of rs ps)) (booking tests effects)) ≡ none
  unfolding moving_verdict plan_tests
  accepts =
      ap (λ (ts : List Test). first_refusal (tests ++ ts)) (moving-types rs ps id from to series r inverse_kind new_kind)
      ∙ none-accepted (first_refusal (plan_tests (books_of (tables_of rs ps)) (booking tests (moving_effects transfer_kind transfer_kind rs ps r id from to series)))) may.accepted

  holds-enough : holds_too_little r (position_read ps from series) ≡ false
  unfolding test
  holds-enough = (own-passed (books_of (tables_of rs ps)) tests effects accepts).0

  record-named : Named (rows_of records_layout rs) (key_of id suffix)
  unfolding is_some the_record
  record-named =
      named-open (rows_of records_layout rs) (key_of id suffix) (records-known rs (record-rows-sound rs may.records-sound)).rows-sound (ap is_some may.named)
      (ap (λ (o : Option Record). eq_z (the_record o).status inverse) may.named ∙ may.not-inverse)

  facts : BookingFacts (books_of (tables_of rs ps)) effects
  unfolding books_of the_record suffix_is_above inverse_record adjustable_record
  facts =
      subst (λ (o : Option Record). BookingFacts (books_of (tables_of rs ps)) (moving_effects inverse_kind new_kind rs ps (the_record o) id from to series)) may.named
      (transfer-effects-facts (books_of (tables_of rs ps)) id suffix from to series inverse_kind new_kind (days-sound rs may.records-sound) record-named may.inverse-kind may.new-kind may.to-valid may.accounts-differ
      (booking-passed (books_of (tables_of rs ps)) tests effects accepts).suffixes)

  pub moving-ready : Ready rs ps (adjusted_record r ∷ []) (moving_inverse inverse_kind (current_day rs) r next ∷ moving_arrived new_kind (current_day rs) r next to ∷ []) (moving_old ps r from series ∷ moving_new ps r to series ∷ [])
  moving-ready = ready rs ps tests effects facts accepts

  pub moving-adjusted : sound_record (adjusted_record r) ≡ true
  moving-adjusted = all_of-head (sound_record (adjusted_record r)) [] moving-ready.changed-sound

  pub moving-next : (pos 0 ≤ℤ next) × ((next +ℤ pos 1) ≤ℤ greatest_of_suffixes)
  unfolding adjustable_record
  moving-next =
      let inverse-row : Bool = sound_record (moving_inverse inverse_kind (current_day rs) r next) in
      let arrived-row : Bool = sound_record (moving_arrived new_kind (current_day rs) r next to) in (
        (next-range rs (record-rows-sound rs may.records-sound) id).0,
        (suffix-range (next +ℤ pos 1)
            (record-sound (moving_arrived new_kind (current_day rs) r next to) (all_of-head arrived-row [] (all_of-tail inverse-row (arrived-row ∷ []) moving-ready.added-sound))).suffix).1,
      )

  -- The old account's row, which is written anew, is there: it holds the quantity, which is at least 1.
  pub moving-old-there : (x : Position) × (find position_key (position_key (moving_old ps r from series)) (rows_of positions_layout ps) ≡ some x)
  unfolding moved or_zeros zero_position holds_too_little
  moving-old-there = go (found (find position_key (key_of from series) (rows_of positions_layout ps)))
    where
      none-held : find position_key (key_of from series) (rows_of positions_layout ps) ≡ none → (b : Bool) → is_buy r.side ≡ b → lt_z (pos 0) r.quantity ≡ false
      none-held e true side = rw (e, side) at holds-enough
      none-held e false side = rw (e, side) at holds-enough

      go : Found (find position_key (key_of from series) (rows_of positions_layout ps))
          → (x : Position) × (find position_key (position_key (moving_old ps r from series)) (rows_of positions_layout ps) ≡ some x)
      go (present x e) = (x, ap (λ (k : Key). find position_key k (rows_of positions_layout ps)) (read-key from series (rows_of positions_layout ps)) ∙ e)
      go (absent e) =
          let positive : pos 1 ≤ℤ r.quantity = (open-quantity r (found-record rs (record-rows-sound rs may.records-sound) id suffix r may.named).sound may.not-inverse).0 in
          let short : lt_z (pos 0) r.quantity ≡ false = none-held e (is_buy r.side) refl in
          absurd (omega zarith)

  pub moving-put-old : PutReady ps (moving_old ps r from series)
  moving-put-old =
      put-ready rs ps _ _ [] (moving_new ps r to series ∷ []) (moving_old ps r from series) moving-ready may.positions-sound
      ps (put-none positions_layout position_key positions-lawful ps (positions-known ps may.positions-sound).count-sound) may.positions-sound

  pub moving-put-new : (ps₁ : List ℤ) → ps₁ ≡ put_one positions_layout position_key ps (moving_old ps r from series) → sound_positions ps₁ ≡ true
      → PutReady ps₁ (moving_new ps r to series)
  moving-put-new ps₁ e sound =
      put-ready rs ps _ _ (moving_old ps r from series ∷ []) [] (moving_new ps r to series) moving-ready may.positions-sound
      ps₁ (e ∙ put-one positions_layout position_key ps (moving_old ps r from series)) sound

  -- ---- what it comes to

  pub moving-returns : (ps₁ ps₂ : List ℤ)
      → ps₁ ≡ put_one positions_layout position_key ps (moving_old ps r from series)
      → ps₂ ≡ put_one positions_layout position_key ps₁ (moving_new ps r to series)
      → ps₂ ≡ positions_after effects ps
  moving-returns ps₁ ps₂ e f =
      put_next positions_layout position_key positions-lawful ps ps₁ (positions-known ps may.positions-sound).header-within (moving_old ps r from series ∷ [])
      (e ∙ put-one positions_layout position_key ps (moving_old ps r from series)) ps₂ (moving_new ps r to series) f
