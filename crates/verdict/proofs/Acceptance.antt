-- Sound tables have sound books, and the verdict accepts exactly where no refusal from 3 on applies. By the definitions. Assumes nothing.
use Prim.Native.Nat.{ℕ}
use native.Mathlib.Omega.{arith}
use mathlib.Core.Path.{◌≡◌, refl, ap}
use mathlib.Core.Bool.{true}
use mathlib.Core.List.{List}
use mathlib.Core.Option.{Option, none, some}
use lib.IntN.{ℤ}
use Rattle.rules.specs.Refusal.{Test, first_refusal}
use Rattle.rules.specs.Request.{Request}
use Rattle.rules.specs.Plan.{plan_tests}
use Rattle.rules.specs.Tables.{books_of, sound_records, sound_positions, sound_processes, no_processes, tables_of}
use Rattle.rules.proofs.Computed.{Computed}
use Rattle.cells.proofs.SoundBookCells.{books-records-rise, books-records-sound, books-records-fit, books-days-sound, books-positions-rise, books-positions-sound, books-positions-fit, books-processes-rise, books-processes-sound, books-processes-fit}
use Rattle.soundness.specs.SoundBooks.{SoundBooks, plan_on, Accepts}
use Rattle.verdict.specs.Verdict.{verdict_of, verdict_on}
use Rattle.verdict.specs.Verdict.{Accepted}

-- The process table that stands where none is lent.
pub no-processes-sound : sound_processes no_processes ≡ true
unfolding Computed
no-processes-sound = refl

pub sound-books : (rs ps : List ℤ) → sound_records rs ≡ true → sound_positions ps ≡ true → SoundBooks (books_of (tables_of rs ps))
sound-books rs ps h k = record {
  records-rise = books-records-rise (tables_of rs ps) h;
  records-sound = books-records-sound (tables_of rs ps) h;
  records-fit = books-records-fit (tables_of rs ps) h;
  positions-rise = books-positions-rise (tables_of rs ps) k;
  positions-sound = books-positions-sound (tables_of rs ps) k;
  positions-fit = books-positions-fit (tables_of rs ps) k;
  processes-rise = books-processes-rise (tables_of rs ps) no-processes-sound;
  processes-sound = books-processes-sound (tables_of rs ps) no-processes-sound;
  processes-fit = books-processes-fit (tables_of rs ps) no-processes-sound;
  days-sound = books-days-sound (tables_of rs ps) h;
}

pub none-accepted : (o : Option Test) → verdict_of o ≡ Accepted → o ≡ none
unfolding verdict_of
none-accepted none h = refl
none-accepted (some t) h = let z : ◌≡◌ {A = ℕ} 0 1 = cc in absurd (omega arith)

module _ (rs ps : List ℤ) (r : Request) where
  pub accepted-accepts : verdict_on rs ps r ≡ Accepted → Accepts (books_of (tables_of rs ps)) r
  unfolding verdict_on
  accepted-accepts h = none-accepted (first_refusal (plan_tests (books_of (tables_of rs ps)) (plan_on (books_of (tables_of rs ps)) r))) h

  pub accepts-accepted : Accepts (books_of (tables_of rs ps)) r → verdict_on rs ps r ≡ Accepted
  unfolding verdict_on verdict_of
  accepts-accepted h = ap verdict_of h
