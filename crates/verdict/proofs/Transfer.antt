-- The tests of an account transfer in the shape in which code meets them, what an accepted one asks of the record that moves, and its tables and answer. By the definitions.
-- Assumes nothing.
use Prim.Native.Nat.{ℕ}
use mathlib.Core.Path.{◌≡◌, refl, sym, ◌∙◌, ap, subst}
use mathlib.Core.Bool.{true, false, not}
use mathlib.Core.List.{List, ◌∷◌}
use mathlib.Core.Option.{Option, some}
use lib.IntN.{ℤ, pos}
use Rattle.integers.specs.Order.{eq_z}
use Rattle.rules.specs.Figures.{is_to_close, transfer_kind}
use Rattle.rules.specs.Keyed.{find, is_some}
use Rattle.rules.specs.Rows.{key_of, record_key, valid_kind}
use Rattle.rules.specs.NamedRecord.{the_record, is_elsewhere, is_not_adjustable, status_test}
use Rattle.rules.specs.Refusal.{test, first_refusal}
use Rattle.rules.specs.Request.{transfer}
use Rattle.rules.specs.Books.{view_of}
use Rattle.rules.specs.Plan.{Effects, plan_tests, booked, plan_reply}
use Rattle.rules.specs.Transfer.{transfer_figures, transfer_plan}
use Rattle.rules.specs.Layout.{rows_of}
use Rattle.rules.specs.Tables.{books_of, write_books, records_layout, sound_records, sound_positions, tables_of}
use Rattle.rules.specs.Handle.{plan_of, plan_tables, written_by, answered}
use Rattle.rules.specs.declared.Record.{Record}
use Rattle.rules.specs.declared.Reply.TheVariants.{Booked}
use Rattle.soundness.proofs.SoundRows.{adjustable-open}
use Rattle.soundness.proofs.Transfer.{TransferPassed, transfer-passed}
use Rattle.verdict.specs.Verdict.{verdict_on, accepted_on}
use Rattle.verdict.specs.Moving.{moving_effects, moving_verdict, records_after, positions_after}
use Rattle.verdict.specs.Verdict.{Accepted}
use Rattle.verdict.proofs.Acceptance.{accepted-accepts}
use Rattle.verdict.proofs.Moving.{moving_tests, moving-first, moving-tests}
use Rattle.verdict.proofs.MovingReady.{Movable}
use Rattle.verdict.proofs.Remaining.{Listed, row, status_row, from_test, Remaining, ◌past◌, passes}
use Rattle.verdict.proofs.SoundReads.{status-adjustable}

module _ (rs ps : List ℤ) (id suffix from to series : ℤ) where
  abbrev named : Option Record
  named = find record_key (key_of id suffix) (rows_of records_layout rs)

  -- ---- the verdict

  -- The tests of a transfer that names the record r.
  abbrev transfer_tests : Record → List Listed
  transfer_tests r =
      row 3 (not (transfer_figures id suffix from to series))
      ∷ row 5 (not (is_some named))
      ∷ row 6 (is_elsewhere from series r)
      ∷ status_row r
      ∷ row 8 (is_to_close r.side)
      ∷ moving_tests rs ps id from to series r

  -- The verdict is that of the tests from number n on.
  abbrev pub TransferFrom : ℕ → Record → Type 0
  TransferFrom n r = Remaining (verdict_on rs ps (transfer id suffix from to series)) (from_test n (transfer_tests r))

  pub transfer-tests : (r : Record) → the_record named ≡ r → TransferFrom 3 r
  unfolding verdict_on plan_of transfer_plan view_of books_of plan_tests status_test first_refusal test
  transfer-tests r e = record { is = rw (← e, moving-first rs ps id from to series (the_record named)) }

  -- Past tests 3 and 5: r is the record that is named.
  pub transfer-named : (r : Record) → transfer_figures id suffix from to series ≡ true → named ≡ some r → TransferFrom 6 r
  unfolding is_some the_record
  transfer-named r figures e = transfer-tests r (ap the_record e) past ap not figures past ap (λ (o : Option Record). not (is_some o)) e

  -- Past test 8 it is that of what moves.
  pub transfer-moving : (r : Record) → TransferFrom 12 r → moving_verdict rs ps r id from to series ≡ verdict_on rs ps (transfer id suffix from to series)
  transfer-moving r m = (moving-tests rs ps id from to series r).is ∙ sym m.is

  -- ---- an accepted transfer

  kind-valid : valid_kind transfer_kind ≡ true
  unfolding valid_kind eq_z
  kind-valid = refl

  module _ (records-sound : sound_records rs ≡ true) (positions-sound : sound_positions ps ≡ true)
      (accepted : verdict_on rs ps (transfer id suffix from to series) ≡ Accepted) (r : Record) (e : named ≡ some r) where
    has-passed : TransferPassed (rows_of records_layout rs) id suffix from to
    unfolding books_of
    has-passed = transfer-passed (books_of (tables_of rs ps)) id suffix from to series (accepted-accepts rs ps (transfer id suffix from to series) accepted)

    moves : moving_verdict rs ps r id from to series ≡ Accepted
    unfolding the_record
    moves =
        let at-3 : TransferFrom 3 r = transfer-tests r (ap the_record e) in
        let at_5 : TransferFrom 5 r = at-3 past passes at-3 accepted in
        let at-6 : TransferFrom 6 r = at_5 past passes at_5 accepted in
        let at_7 : TransferFrom 7 r = at-6 past passes at-6 accepted in
        let at_8 : TransferFrom 8 r = at_7 past passes at_7 accepted in
        transfer-moving r (at_8 past passes at_8 accepted) ∙ accepted

    pub transfer-movable : Movable rs ps id suffix from to series transfer_kind transfer_kind r
    unfolding the_record
    transfer-movable = record {
      records-sound = records-sound;
      positions-sound = positions-sound;
      named = e;
      not-inverse = adjustable-open r.status
          (status-adjustable r (subst (λ (o : Option Record). is_not_adjustable (the_record o) ≡ false) e has-passed.record-adjustable));
      accounts-differ = has-passed.accounts-differ;
      to-valid = has-passed.to-valid;
      inverse-kind = kind-valid;
      new-kind = kind-valid;
      accepted = moves;
    }

  -- ---- the booking

  module _ (r : Record) (e : named ≡ some r) where
    abbrev effects : Record → Effects
    effects x = moving_effects transfer_kind transfer_kind rs ps x id from to series

    transfer-booked : accepted_on rs ps (transfer id suffix from to series) ≡ answered (Booked (pos 2) (pos 0)) (records_after (effects r) rs) (positions_after (effects r) ps)
    unfolding accepted_on plan_of transfer_plan view_of books_of plan_reply plan_tables written_by write_books booked the_record
    transfer-booked = λ i. answered (Booked (pos 2) (pos 0)) (records_after (effects (the_record (e i))) rs) (positions_after (effects (the_record (e i))) ps)

    pub transfer-returns : (rs₁ ps₁ : List ℤ) → rs₁ ≡ records_after (effects r) rs → ps₁ ≡ positions_after (effects r) ps
        → answered (Booked (pos 2) (pos 0)) rs₁ ps₁ ≡ accepted_on rs ps (transfer id suffix from to series)
    transfer-returns rs₁ ps₁ f g = (λ i. answered (Booked (pos 2) (pos 0)) (f i) (g i)) ∙ sym transfer-booked
