-- A step on any tables, by the verdict on them: refused by tests 1, 2 and 19, or all three are sound. By the definitions. Assumes nothing.
use Prim.Native.Nat.{ℕ}
use native.Mathlib.Omega.{arith}
use mathlib.Core.Path.{◌≡◌, refl, sym, ◌∙◌}
use mathlib.Core.Bool.{Bool, true, false, not}
use mathlib.Core.List.{List, [], ◌∷◌}
use lib.IntN.{ℤ, pos}
use Rattle.rules.specs.Refusal.{test, first_refusal}
use Rattle.rules.specs.Request.{give_up, is_step}
use Rattle.rules.specs.GiveUp.{give_up_plan}
use Rattle.rules.specs.Tables.{all_tables, sound_records, sound_positions, sound_processes}
use Rattle.rules.specs.Handle.{handle, answered_by, plan_of, sound_processes_test, soundness_tests}
use Rattle.rules.specs.declared.Reply.TheVariants as Reply
use Rattle.rules.specs.declared.Step.{Step}
use Rattle.soundness.specs.SoundTables.{SoundTables}
use Rattle.verdict.specs.Verdict.{verdict_of, verdict_on_tables}
use Rattle.verdict.specs.Verdict.{Verdict}
use Rattle.verdict.proofs.Handled.{refused-before, both_hold, unsound-in}
use Rattle.give_up_steps.specs.OnAllTables.{verdict_on_all_tables}

-- Three tests that accept all hold.
all_hold : (a b c : Bool) → verdict_of (first_refusal (test 1 (not a) ∷ test 2 (not b) ∷ test 19 (not c) ∷ [])) ≡ Verdict.Accepted → (a ≡ true) × (b ≡ true) × (c ≡ true)
unfolding first_refusal test verdict_of
all_hold true true true h = (refl, refl, refl)
all_hold true true false h = let z : ◌≡◌ {A = ℕ} 0 1 = cc in absurd (omega arith)
all_hold true false c h = let z : ◌≡◌ {A = ℕ} 0 1 = cc in absurd (omega arith)
all_hold false b c h = let z : ◌≡◌ {A = ℕ} 0 1 = cc in absurd (omega arith)

-- What tests 1 and 2 refuse; and where they accept, test 19 decides.
module _ (rs ps qs : List ℤ) where
  pub two-refuse : (n p : ℤ) → verdict_on_tables rs ps ≡ Verdict.Refused n p → verdict_on_all_tables rs ps qs ≡ Verdict.Refused n p
  unfolding verdict_on_tables verdict_on_all_tables
  two-refuse n p h = refused-before (test 1 (not (sound_records rs)) ∷ test 2 (not (sound_positions ps)) ∷ []) (test 19 (not (sound_processes qs)) ∷ []) n p h

  third-decides : verdict_on_tables rs ps ≡ Verdict.Accepted → verdict_on_all_tables rs ps qs ≡ verdict_of (first_refusal (test 19 (not (sound_processes qs)) ∷ []))
  unfolding verdict_on_tables verdict_on_all_tables first_refusal test
  third-decides h =
      let w : (sound_records rs ≡ true) × (sound_positions ps ≡ true) = both_hold (sound_records rs) (sound_positions ps) 1 2 h in
      rw (w.0, w.1)

  pub third-refuses : verdict_on_tables rs ps ≡ Verdict.Accepted → sound_processes qs ≡ false → verdict_on_all_tables rs ps qs ≡ Verdict.Refused (pos 19) (pos 0)
  unfolding first_refusal test verdict_of
  third-refuses h k = third-decides h ∙ rw k

  pub third-accepts : verdict_on_tables rs ps ≡ Verdict.Accepted → sound_processes qs ≡ true → verdict_on_all_tables rs ps qs ≡ Verdict.Accepted
  unfolding first_refusal test verdict_of
  third-accepts h k = third-decides h ∙ rw k

module _ (rs ps qs : List ℤ) {v : Verdict} (judged : v ≡ verdict_on_all_tables rs ps qs) where
  pub unsound-refused : (step : Step) (process id suffix giving taking series n p : ℤ) → v ≡ Verdict.Refused n p
      → answered_by (Reply.Refused n p) (all_tables rs ps qs) ≡ handle (all_tables rs ps qs) (give_up step process id suffix giving taking series)
  unfolding verdict_on_all_tables soundness_tests sound_processes_test is_step plan_of give_up_plan
  unsound-refused step process id suffix giving taking series n p refused =
      sym (unsound-in (all_tables rs ps qs) (give_up step process id suffix giving taking series) n p (sym judged ∙ refused))

  pub all_sound : v ≡ Verdict.Accepted → SoundTables (all_tables rs ps qs)
  unfolding verdict_on_all_tables
  all_sound accepted =
      let w : (sound_records rs ≡ true) × (sound_positions ps ≡ true) × (sound_processes qs ≡ true) = all_hold _ _ _ (sym judged ∙ accepted) in
      record { records = w.0; positions = w.1; processes = w.2 }
