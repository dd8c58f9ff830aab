-- A batch by its tests 1 to 3: refused on tables that aren't sound, refused 3, or its trades handed in one by one. Refused, it leaves every cell. Assumes nothing.
use Prim.Native.Nat.{ℕ}
use mathlib.Core.Path.{◌≡◌, refl, sym, ◌∙◌, ap}
use mathlib.Core.Bool.{true, false, not}
use mathlib.Core.List.{List, [], ◌∷◌}
use lib.IntN.{ℤ, pos}
use Rattle.rules.specs.Refusal.{test, first_refusal}
use Rattle.rules.specs.Reply.{refused_by}
use Rattle.rules.specs.Tables.{tables_of, sound_records, sound_positions}
use Rattle.rules.specs.Handle.{Answer, answer, answered}
use Rattle.rules.specs.Left.{Left, left, left_by, written_to}
use Rattle.rules.specs.Sequence.{until_refused}
use Rattle.rules.specs.Batch.{trades_of, batch_figures, batch_tests, batch_answer, handle_batch}
use Rattle.rules.specs.Call.{trades, handle_call}
use Rattle.rules.specs.declared.Reply.TheVariants as Reply
use Rattle.verdict.specs.Verdict.{verdict_on_tables}
use Rattle.verdict.specs.Verdict.{Verdict}
use Rattle.verdict.specs.Verdict as Verdict
use Rattle.verdict.proofs.Handled.{refused-before, refused_as}

-- `cells` are those lent for the excesses.
module _ (rs ps figures cells : List ℤ) (room : ℕ) where
  -- A refusal writes nothing.
  refused-left : (n p : ℤ) → left (Reply.Refused n p) cells rs ps ≡ left_by cells (answered (Reply.Refused n p) rs ps)
  unfolding written_to
  refused-left n p = refl

  -- Tests 1 and 2, by the code's verdict on the tables.
  pub unsound-left : {v : Verdict} → v ≡ verdict_on_tables rs ps → (n p : ℤ) → v ≡ Verdict.Refused n p →
      left (Reply.Refused n p) cells rs ps ≡ left_by cells (handle_call (tables_of rs ps) (trades figures room))
  unfolding verdict_on_tables handle_call handle_batch batch_tests
  unsound-left judged n p refused =
      refused-left n p
      ∙ ap (λ (a : Answer). left_by cells a)
      (sym (refused_as (tables_of rs ps) _ (batch_answer (until_refused (tables_of rs ps) (trades_of figures))) n p (refused-before _ (test 3 (not (batch_figures figures room)) ∷ []) n p (sym judged ∙ refused))))

  module _ (h : sound_records rs ≡ true) (k : sound_positions ps ≡ true) where
    -- Test 3.
    pub figures-left : batch_figures figures room ≡ false → left (Reply.Refused (pos 3) (pos 0)) cells rs ps ≡ left_by cells (handle_batch (tables_of rs ps) figures room)
    unfolding handle_batch batch_tests first_refusal test answer refused_by
    figures-left bad = refused-left (pos 3) (pos 0) ∙ rw (h, k, bad) refl

    -- Past test 3, what its trades leave is what the batch leaves.
    pub booked-left : batch_figures figures room ≡ true → (l : Left) → l ≡ left_by cells (batch_answer (until_refused (tables_of rs ps) (trades_of figures))) →
        l ≡ left_by cells (handle_batch (tables_of rs ps) figures room)
    unfolding handle_batch batch_tests first_refusal test answer
    booked-left ok l e = e ∙ rw (h, k, ok) refl
