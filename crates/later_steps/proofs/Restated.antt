-- What a later step leaves of the records, as cells: those of a claim and of the approvals stay as they are, a cancellation and a refusal set one status. Assumes nothing.
use mathlib.Core.Path.{◌≡◌, refl, sym, ◌∙◌, ap}
use mathlib.Core.Bool.{true, false}
use mathlib.Core.Logic.{◌⊎◌, inl, inr}
use Rattle.std.proofs.lemmas.Bool.{false≢true}
use mathlib.Core.List.{List, [], ◌∷◌}
use lib.IntN.{ℤ}
use Rattle.rules.specs.Keyed.{upsert, upsert_all}
use Rattle.rules.specs.Figures.{adjustable}
use Rattle.rules.specs.Rows.{record_key, with_status}
use Rattle.rules.specs.GiveUp.{is_opening, record_after}
use Rattle.rules.specs.Layout.{rows_of, write}
use Rattle.rules.specs.Tables.{records_layout, sound_record_rows}
use Rattle.rules.specs.declared.Record.{Record}
use Rattle.rules.specs.declared.Step.{Step}
use Rattle.rules.specs.declared.Step.TheVariants.{Open, Claim, Cancel, Refuse, ApproveGiver, ApproveTaker}
use Rattle.keys.proofs.Clauses.{upsert_all-nil, upsert_all-cons}
use Rattle.cells.proofs.RowCells.{records-lawful}
use Rattle.cells.proofs.SoundCells.{records-known}
use Rattle.cells.proofs.Write.{write-own}

-- A cancellation and a refusal set the record back, every other step but the opening leaves it.
pub set-back : (step : Step) (r : Record) → (step ≡ Cancel) ⊎ (step ≡ Refuse) → record_after step r ≡ with_status adjustable r ∷ []
unfolding record_after
set-back step r (inl e) = ap (λ (s : Step). record_after s r) e
set-back step r (inr e) = ap (λ (s : Step). record_after s r) e

pub left_alone : (step : Step) (r : Record) → is_opening step ≡ false → (step ≡ Cancel → ⊥) → (step ≡ Refuse → ⊥) → record_after step r ≡ []
unfolding record_after
left_alone Open r later c f = absurd (false≢true (sym later))
left_alone Claim r later c f = refl
left_alone Cancel r later c f = absurd (c refl)
left_alone Refuse r later c f = absurd (f refl)
left_alone ApproveGiver r later c f = refl
left_alone ApproveTaker r later c f = refl

module _ (rs : List ℤ) (step : Step) (r : Record) where
  pub record-left : sound_record_rows rs ≡ true → record_after step r ≡ [] → rs ≡ write records_layout rs (upsert_all record_key (record_after step r) (rows_of records_layout rs))
  record-left sound e =
      sym
      (ap (λ (l : List Record). write records_layout rs (upsert_all record_key l (rows_of records_layout rs))) e
      ∙ ap (write records_layout rs) (upsert_all-nil record_key (rows_of records_layout rs))
      ∙ write-own records_layout records-lawful rs (records-known rs sound).count-sound)

  pub record-restated : (new : Record) → record_after step r ≡ new ∷ [] → (out : List ℤ) → out ≡ write records_layout rs (upsert record_key new (rows_of records_layout rs))
      → out ≡ write records_layout rs (upsert_all record_key (record_after step r) (rows_of records_layout rs))
  record-restated new e out h =
      h
      ∙ ap (write records_layout rs) (sym (upsert_all-cons record_key new [] (rows_of records_layout rs) ∙ upsert_all-nil record_key (upsert record_key new (rows_of records_layout rs))))
      ∙ ap (λ (l : List Record). write records_layout rs (upsert_all record_key l (rows_of records_layout rs))) (sym e)
