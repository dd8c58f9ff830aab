-- A request on the lent tables: where it is accepted, it adds to the stored figures what it changes in the sums over the records, at every account and series (`handled-adds`). One that books is accepted on sound
-- records and positions alone, a step of a give-up on sound processes too; beside any process table the others do what they do beside one without rows; a lineage writes nothing, a new day the current
-- day alone. Assumes nothing.
use mathlib.Core.Path.{◌≡◌, refl, sym, ◌∙◌, ap, subst}
use mathlib.Core.Bool.{true, false}
use mathlib.Core.List.{List}
use lib.IntN.{ℤ}
use Rattle.rules.specs.Request.{Request, trade, separate, transfer, merge, lineage, give_up, new_day, is_step}
use Rattle.rules.specs.Books.{Books, view_of}
use Rattle.rules.specs.Trade.{trade_plan}
use Rattle.rules.specs.Separation.{separation_plan}
use Rattle.rules.specs.Transfer.{transfer_plan}
use Rattle.rules.specs.Merge.{Source, pairs_of, records_of, merge_residual, merge_plan}
use Rattle.rules.specs.Lineage.{lineage_plan}
use Rattle.rules.specs.GiveUp.{give_up_plan}
use Rattle.rules.specs.Tables.{Tables, tables_of, books_of}
use Rattle.rules.specs.Handle.{Answer, handle, plan_of, plan_tables}
use Rattle.keys.proofs.Split.{clash}
use Rattle.soundness.specs.SoundTables.{SoundTables}
use Rattle.history.specs.History.{is_accepted}
use Rattle.history.proofs.Accepted.{BookedOn, accepted-tables, accepted-rows, all_sound, booked-on-sound}
use Rattle.history.proofs.Locality.{same-sources}
use Rattle.history.proofs.ProcessesApart.{apart-promised}
use Rattle.history.proofs.DayAlone.{day-books}
use Rattle.history.proofs.Step.{sound-books, step-books}
use Rattle.history.proofs.TableExchange.{accepts-as, no-processes-sound}
use Rattle.totals.specs.Amounts.{Amounts, nothing, amounts_at, merge_amounts, amounts_of}
use Rattle.totals.specs.Adds.{Adds}
use Rattle.totals.proofs.Requests.{same_books, another-day, request-adds}

-- What it adds, at every account and series.
abbrev pub HandledAdds : Tables → Request → Type 0
HandledAdds t r = (account series : ℤ) → Adds (books_of t) (books_of (handle t r).tables) account series (amounts_of (view_of (books_of t)) r account series)

on-sound : (t : Tables) → SoundTables t → (r : Request) → is_accepted t r ≡ true → HandledAdds t r
on-sound t sound r ok account series =
    subst (λ (b : Books). Adds (books_of t) b account series (amounts_of (view_of (books_of t)) r account series)) (sym (step-books t sound r ok))
    (request-adds (books_of t) (sound-books t sound) r (accepted-rows t r ok) account series)

-- ---- beside any process table

module _ (t : Tables) where
  abbrev two : Tables
  two = tables_of t.records t.positions

  -- No amount is read from the processes but those of a step.
  amounts-apart : (r : Request) → is_step r ≡ false → amounts_of (view_of (books_of two)) r ≡ amounts_of (view_of (books_of t)) r
  unfolding amounts_of view_of books_of is_step
  amounts-apart (trade id account series side quantity price) n = refl
  amounts-apart (separate id suffix account series parts) n = refl
  amounts-apart (transfer id suffix from to series) n = refl
  amounts-apart (merge id account series pairs) n =
      ap (λ (sources : List Source). amounts_at account series (merge_amounts (merge_residual (records_of sources))))
      (same-sources (view_of (books_of two)) (view_of (books_of t)) (pairs_of pairs) (record { record-at = λ id n suffix. refl; greatest-at = λ id n. refl }))
  amounts-apart (lineage id suffix) n = refl
  amounts-apart (new_day day) n = refl
  amounts-apart (give_up step process id suffix giving taking series) n = clash refl n

  beside : (r : Request) → is_step r ≡ false → BookedOn t r → is_accepted t r ≡ true → HandledAdds t r
  unfolding books_of view_of
  beside r no_step on ok account series =
      let sound : SoundTables two = record { records = on.records; positions = on.positions; processes = no-processes-sound } in
      let h : Adds (books_of two) (books_of (handle two r).tables) account series (amounts_of (view_of (books_of two)) r account series) =
      on-sound two sound r (sym (accepts-as t.processes two r no_step) ∙ ok) account series in
      let there : Adds (books_of two) (books_of (handle two r).tables) account series (amounts_of (view_of (books_of t)) r account series) =
      subst (λ (f : ℤ → ℤ → Amounts). Adds (books_of two) (books_of (handle two r).tables) account series (f account series)) (amounts-apart r no_step) h in
      subst (λ (a : Answer). Adds (books_of t) (books_of a.tables) account series (amounts_of (view_of (books_of t)) r account series)) (sym (apart-promised t r no_step))
      (record {
        quantity-summed = there.quantity-summed;
        value-summed = there.value-summed;
        quantity-stored = there.quantity-stored;
        value-stored = there.value-stored;
      })

  -- A lineage never writes.
  asked : (id suffix : ℤ) → is_accepted t (lineage id suffix) ≡ true → HandledAdds t (lineage id suffix)
  unfolding plan_of lineage_plan plan_tables amounts_of
  asked id suffix ok account series =
      subst (λ (u : Tables). Adds (books_of t) (books_of u) account series (amounts_of (view_of (books_of t)) (lineage id suffix) account series))
      (sym (accepted-tables t (lineage id suffix) ok)) (same_books (books_of t) account series)

  -- A new day changes no row, whatever the positions.
  dated : (day : ℤ) → is_accepted t (new_day day) ≡ true → HandledAdds t (new_day day)
  unfolding amounts_of
  dated day ok account series = subst (λ (b : Books). Adds (books_of t) b account series nothing) (sym (day-books t day ok)) (another-day (books_of t) day account series)

-- ---- every kind

-- "Every request adds to the stored figures what it changes in these sums", whatever the tables that it is accepted on.
pub handled-adds : (t : Tables) (r : Request) → is_accepted t r ≡ true → HandledAdds t r
unfolding plan_of trade_plan separation_plan transfer_plan merge_plan give_up_plan is_step
handled-adds t (trade id account series side quantity price) ok =
    let r : Request = trade id account series side quantity price in
    beside t r refl (booked-on-sound t r _ _ refl ok) ok
handled-adds t (separate id suffix account series parts) ok =
    let r : Request = separate id suffix account series parts in
    beside t r refl (booked-on-sound t r _ _ refl ok) ok
handled-adds t (transfer id suffix from to series) ok =
    let r : Request = transfer id suffix from to series in
    beside t r refl (booked-on-sound t r _ _ refl ok) ok
handled-adds t (merge id account series pairs) ok =
    let r : Request = merge id account series pairs in
    beside t r refl (booked-on-sound t r _ _ refl ok) ok
handled-adds t (lineage id suffix) ok = asked t id suffix ok
handled-adds t (new_day day) ok = dated t day ok
handled-adds t (give_up step process id suffix giving taking series) ok =
    let r : Request = give_up step process id suffix giving taking series in
    on-sound t (all_sound t r (booked-on-sound t r _ _ refl ok) ((booked-on-sound t r _ _ refl ok).processes refl)) r ok
