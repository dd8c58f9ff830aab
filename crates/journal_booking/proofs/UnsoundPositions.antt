-- A line beside positions that are not sound, on sound records: a request that books is refused 2, and a day is none. Assumes nothing.
use mathlib.Core.Path.{◌≡◌, refl, sym, subst}
use mathlib.Core.Bool.{true, false}
use mathlib.Core.List.{List}
use lib.IntN.{ℤ, pos}
use Rattle.rules.specs.Refusal.{Test, test, first_refusal}
use Rattle.rules.specs.Request.{Request, trade, separate, transfer, merge, lineage, give_up, new_day}
use Rattle.rules.specs.Plan.{Effects, Plan, booking}
use Rattle.rules.specs.Trade.{trade_plan}
use Rattle.rules.specs.Separation.{separation_plan}
use Rattle.rules.specs.Transfer.{transfer_plan}
use Rattle.rules.specs.Merge.{merge_plan}
use Rattle.rules.specs.GiveUp.{give_up_plan}
use Rattle.rules.specs.Tables.{Tables, all_tables, books_of, sound_records, sound_positions}
use Rattle.rules.specs.Handle.{answered_by, handle, plan_of, soundness_tests}
use Rattle.rules.specs.Reader.{request_named}
use Rattle.rules.specs.declared.Reply.TheVariants as Reply
use Rattle.rules.specs.declared.Heading.{Heading}
use Rattle.rules.specs.declared.Heading.TheVariants.{Trade, Separation, Transfer, Merge, GiveUp, Day}
use Rattle.keys.proofs.Split.{clash}
use Rattle.soundness.specs.SoundBooks.{plan_on}
use Rattle.verdict.specs.Verdict.{verdict_of, is_booking}
use Rattle.verdict.specs.Verdict as Verdict
use Rattle.verdict.proofs.Handled.{unsound-in}
use Rattle.journal_booking.specs.RequestBooked.{RequestBooked, is_day}
use Rattle.journal_booking.proofs.Booked.{refused-booked}

-- By its heading: a day, or a request that books.
pub day-named : (heading : Heading) → is_day heading ≡ true → heading ≡ Day
day-named Trade h = clash h refl
day-named Separation h = clash h refl
day-named Transfer h = clash h refl
day-named Merge h = clash h refl
day-named (GiveUp step) h = clash h refl
day-named Day h = refl

books-named : (heading : Heading) (figures : List ℤ) → is_day heading ≡ false → is_booking (request_named heading figures) ≡ true
unfolding request_named
books-named Trade figures h = refl
books-named Separation figures h = refl
books-named Transfer figures h = refl
books-named Merge figures h = refl
books-named (GiveUp step) figures h = refl
books-named Day figures h = clash refl h

module _ (rs ps qs : List ℤ) (sound : sound_records rs ≡ true) (unsound : sound_positions ps ≡ false) where
  abbrev t : Tables
  t = all_tables rs ps qs

  booking-refused : (r : Request) (tests : List Test) (e : Effects) → plan_on (books_of t) r ≡ booking tests e → handle t r ≡ answered_by (Reply.Refused (pos 2) (pos 0)) t
  unfolding soundness_tests first_refusal test verdict_of
  booking-refused r tests e q =
      unsound-in t r (pos 2) (pos 0) (subst (λ (plan : Plan). verdict_of (first_refusal (soundness_tests t r plan)) ≡ Verdict.Refused (pos 2) (pos 0)) (sym q) (rw (sound, unsound) refl))

  each-refused : (r : Request) → is_booking r ≡ true → handle t r ≡ answered_by (Reply.Refused (pos 2) (pos 0)) t
  unfolding plan_of trade_plan separation_plan transfer_plan merge_plan give_up_plan
  each-refused (trade id account series side quantity price) b = booking-refused (trade id account series side quantity price) _ _ refl
  each-refused (separate id suffix account series parts) b = booking-refused (separate id suffix account series parts) _ _ refl
  each-refused (transfer id suffix from to series) b = booking-refused (transfer id suffix from to series) _ _ refl
  each-refused (merge id account series pairs) b = booking-refused (merge id account series pairs) _ _ refl
  each-refused (lineage id suffix) b = clash b refl
  each-refused (give_up step process id suffix giving taking series) b = booking-refused (give_up step process id suffix giving taking series) _ _ refl
  each-refused (new_day day) b = clash b refl

  pub line_refused : (heading : Heading) (figures : List ℤ) → is_day heading ≡ false → RequestBooked t (request_named heading figures) (Verdict.Refused (pos 2) (pos 0)) t
  line_refused heading figures h = refused-booked (pos 2) (pos 0) (sym (each-refused (request_named heading figures) (books-named heading figures h))) sound
