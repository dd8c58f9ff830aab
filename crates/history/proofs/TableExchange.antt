-- The exchange, on the tables, sound or not: of two neighbouring accepted requests that don't touch, each is accepted with the same answer in the other order, and every cell
-- is the same at the end. On sound tables by the exchange on rows, what is written twice being what is written last; where records or positions are not sound both requests are
-- questions (a new day, which is accepted there too, touches everything); where the processes are not sound neither is a step of a give-up, and what others do is the same beside any process table. Assumes nothing.
use mathlib.Core.Path.{◌≡◌, refl, sym, ◌∙◌, ap, subst}
use mathlib.Core.Bool.{true, false, not}
use mathlib.Core.List.{List}
use mathlib.Core.Option.{Option}
use lib.IntN.{ℤ}
use mathlib.Core.Logic.{◌⊎◌, inl, inr}
use Rattle.rules.specs.Keyed.{is_some}
use Rattle.rules.specs.Refusal.{Test}
use Rattle.rules.specs.Request.{Request, trade, separate, transfer, merge, lineage, give_up, new_day, is_step}
use Rattle.rules.specs.Books.{Books, view_of}
use Rattle.rules.specs.Plan.{plan_reply}
use Rattle.rules.specs.Tables.{Tables, tables_of, no_processes, with_processes, sound_processes, books_of, write_books}
use Rattle.rules.specs.GiveUp.{give_up_plan}
use Rattle.rules.specs.Touching.{touches_all, touch}
use Rattle.rules.specs.Handle.{Answer, handle, plan_of}
use Rattle.rules.proofs.Computed.{Computed}
use Rattle.soundness.specs.SoundBooks.{plan_on, Accepts, after}
use Rattle.soundness.specs.SoundTables.{SoundTables}
use Rattle.cells.proofs.SoundBookCells.{sound-headers}
use Rattle.keys.proofs.Split.{split, clash}
use Rattle.cells.proofs.BookCells.{write-books-twice}
use Rattle.history.specs.History.{is_accepted}
use Rattle.history.proofs.Accepted.{accepted-reply, accepted-rows, rows-accepted, booked-on-sound, sound-or-same}
use Rattle.history.proofs.ProcessesApart.{refusal-apart, processes-apart, processes-stay}
use Rattle.history.proofs.Named.{Apart, untouched-apart}
use Rattle.history.proofs.Effects.{leaves-day}
use Rattle.history.proofs.Exchange.{Exchanged, exchange}
use Rattle.history.proofs.Step.{sound-books, Later, later, step-tables, step-books, step-sound}

-- What is to be shown of two neighbours x, y on these tables.
pub record TablesExchanged (t : Tables) (x y : Request) : Type 0 where
  pub second-accepted : is_accepted t y ≡ true
  pub second-reply : (handle t y).reply ≡ (handle (handle t x).tables y).reply
  pub first-accepted : is_accepted (handle t y).tables x ≡ true
  pub first-reply : (handle (handle t y).tables x).reply ≡ (handle t x).reply
  pub same_tables : (handle (handle t y).tables x).tables ≡ (handle (handle t x).tables y).tables

-- Two requests, one after the other, write what the second leaves.
two_steps : (t : Tables) (sound : SoundTables t) (x y : Request) → touches_all x ≡ false → touches_all y ≡ false → is_accepted t x ≡ true → is_accepted (handle t x).tables y ≡ true →
    (handle (handle t x).tables y).tables ≡ write_books t (after (after (books_of t) x) y)
two_steps t sound x y x-not-all y-not-all ok-x ok-y =
    let b : Books = books_of t in
    let grown : Later (after b x) (after (after b x) y) = later (after b x) (plan_on (after b x) y) in
    step-tables (handle t x).tables (step-sound t sound x ok-x) y ok-y (leaves-day (view_of (books_of (handle t x).tables)) y y-not-all)
    ∙ ap (λ (c : Books). write_books (handle t x).tables (after c y)) (step-books t sound x ok-x)
    ∙ ap (λ (u : Tables). write_books u (after (after b x) y)) (step-tables t sound x ok-x (leaves-day (view_of b) x x-not-all))
    ∙ write-books-twice t (after b x) (after (after b x) y) (sound-headers t sound.records sound.positions sound.processes)
    grown.more-records grown.more-positions grown.more-processes

on-sound : (t : Tables) → SoundTables t → (x y : Request) → touch y x ≡ false → is_accepted t x ≡ true → is_accepted (handle t x).tables y ≡ true → TablesExchanged t x y
on-sound t sound x y free ok-x ok-y =
    let b : Books = books_of t in
    let apart : Apart y x = untouched-apart y x free in
    let books-x : books_of (handle t x).tables ≡ after b x = step-books t sound x ok-x in
    let swapped : Exchanged b x y =
    exchange b (sound-books t sound) x y free (accepted-rows t x ok-x)
    (subst (λ (c : Books). Accepts c y) books-x (accepted-rows (handle t x).tables y ok-y)) in
    let first-y : is_accepted t y ≡ true = rows-accepted t y sound swapped.second-accepted in
    let books-y : books_of (handle t y).tables ≡ after b y = step-books t sound y first-y in
    let later-x : is_accepted (handle t y).tables x ≡ true =
    rows-accepted (handle t y).tables x (step-sound t sound y first-y) (subst (λ (c : Books). Accepts c x) (sym books-y) swapped.first-accepted) in
    record {
      second-accepted = first-y;
      second-reply =
          accepted-reply t y first-y ∙ ap plan_reply (sym swapped.plan-of-second) ∙ ap (λ (c : Books). plan_reply (plan_on c y)) (sym books-x)
          ∙ sym (accepted-reply (handle t x).tables y ok-y);
      first-accepted = later-x;
      first-reply =
          accepted-reply (handle t y).tables x later-x ∙ ap (λ (c : Books). plan_reply (plan_on c x)) books-y ∙ ap plan_reply swapped.plan-of-first
          ∙ sym (accepted-reply t x ok-x);
      same_tables =
          two_steps t sound y x apart.first-not-all apart.second-not-all first-y later-x ∙ ap (λ (c : Books). write_books t c) swapped.same_end ∙ sym (two_steps t sound x y apart.second-not-all apart.first-not-all ok-x ok-y);
    }

-- Two requests that leave the tables as they are.
both-same : (t : Tables) (x y : Request) → is_accepted t x ≡ true → is_accepted t y ≡ true → (handle t x).tables ≡ t → (handle t y).tables ≡ t → TablesExchanged t x y
both-same t x y ok-x ok-y same-x same-y = record {
  second-accepted = ok-y;
  second-reply = ap (λ (u : Tables). (handle u y).reply) (sym same-x);
  first-accepted = ap (λ (u : Tables). is_accepted u x) same-y ∙ ok-x;
  first-reply = ap (λ (u : Tables). (handle u x).reply) same-y;
  same_tables =
      ap (λ (u : Tables). (handle u x).tables) same-y ∙ same-x ∙ sym (ap (λ (u : Tables). (handle u y).tables) same-x ∙ same-y);
}

-- Beside sound processes.
beside-sound : (t : Tables) → sound_processes t.processes ≡ true → (x y : Request) → touch y x ≡ false → is_accepted t x ≡ true → is_accepted (handle t x).tables y ≡ true → TablesExchanged t x y
beside-sound t processes x y free ok-x ok-y = go (sound-or-same t x processes (leaves-day (view_of (books_of t)) x (untouched-apart y x free).second-not-all) ok-x)
  where
    rest : (at_once : is_accepted t y ≡ true) → (handle t x).tables ≡ t → (SoundTables t) ⊎ ((handle t y).tables ≡ t) → TablesExchanged t x y
    rest at_once same-x (inl sound) = on-sound t sound x y free ok-x ok-y
    rest at_once same-x (inr same-y) = both-same t x y ok-x at_once same-x same-y

    go : (SoundTables t) ⊎ ((handle t x).tables ≡ t) → TablesExchanged t x y
    go (inl sound) = on-sound t sound x y free ok-x ok-y
    go (inr same-x) =
        let at_once : is_accepted t y ≡ true = subst (λ (u : Tables). is_accepted u y ≡ true) same-x ok-y in
        rest at_once same-x (sound-or-same t y processes (leaves-day (view_of (books_of t)) y (untouched-apart y x free).first-not-all) at_once)

-- Requests that are no steps, on tables with another process table.
module _ (processes : List ℤ) where
  pub accepts-as : (u : Tables) (r : Request) → is_step r ≡ false → is_accepted (with_processes processes u) r ≡ is_accepted u r
  unfolding is_accepted
  accepts-as u r n = ap (λ (o : Option Test). not (is_some o)) (refusal-apart processes u r n)

  replies-as : (u : Tables) (r : Request) → is_step r ≡ false → (handle (with_processes processes u) r).reply ≡ (handle u r).reply
  replies-as u r n = ap (λ (a : Answer). a.reply) (processes-apart processes u r n)

  leaves-as : (u : Tables) (r : Request) → is_step r ≡ false → (handle (with_processes processes u) r).tables ≡ with_processes processes (handle u r).tables
  leaves-as u r n = ap (λ (a : Answer). a.tables) (processes-apart processes u r n)

  -- One after the other.
  accepts-after : (u : Tables) (a b : Request) → is_step a ≡ false → is_step b ≡ false → is_accepted (handle (with_processes processes u) a).tables b ≡ is_accepted (handle u a).tables b
  accepts-after u a b n m = ap (λ (w : Tables). is_accepted w b) (leaves-as u a n) ∙ accepts-as (handle u a).tables b m

  replies-after : (u : Tables) (a b : Request) → is_step a ≡ false → is_step b ≡ false → (handle (handle (with_processes processes u) a).tables b).reply ≡ (handle (handle u a).tables b).reply
  replies-after u a b n m = ap (λ (w : Tables). (handle w b).reply) (leaves-as u a n) ∙ replies-as (handle u a).tables b m

  leaves_after : (u : Tables) (a b : Request) → is_step a ≡ false → is_step b ≡ false → (handle (handle (with_processes processes u) a).tables b).tables ≡ with_processes processes (handle (handle u a).tables b).tables
  leaves_after u a b n m = ap (λ (w : Tables). (handle w b).tables) (leaves-as u a n) ∙ leaves-as (handle u a).tables b m

  exchanged-beside : (u : Tables) (x y : Request) → is_step x ≡ false → is_step y ≡ false → TablesExchanged u x y → TablesExchanged (with_processes processes u) x y
  exchanged-beside u x y x-no-step y-no-step w = record {
    second-accepted = accepts-as u y y-no-step ∙ w.second-accepted;
    second-reply = replies-as u y y-no-step ∙ w.second-reply ∙ sym (replies-after u x y x-no-step y-no-step);
    first-accepted = accepts-after u y x y-no-step x-no-step ∙ w.first-accepted;
    first-reply = replies-after u y x y-no-step x-no-step ∙ w.first-reply ∙ sym (replies-as u x x-no-step);
    same_tables =
        leaves_after u y x y-no-step x-no-step ∙ ap (λ (v : Tables). with_processes processes v) w.same_tables ∙ sym (leaves_after u x y x-no-step y-no-step);
  }

-- A step is refused 19 beside processes that are not sound.
pub no_step : (t : Tables) (r : Request) → is_accepted t r ≡ true → sound_processes t.processes ≡ false → is_step r ≡ false
unfolding plan_of give_up_plan is_step
no_step t (trade id account series side quantity price) ok h = refl
no_step t (separate id suffix account series parts) ok h = refl
no_step t (transfer id suffix from to series) ok h = refl
no_step t (merge id account series pairs) ok h = refl
no_step t (lineage id suffix) ok h = refl
no_step t (new_day day) ok h = refl
no_step t (give_up step process id suffix giving taking series) ok h =
    clash ((booked-on-sound t (give_up step process id suffix giving taking series) _ _ refl ok).processes refl) h

pub no-processes-sound : sound_processes no_processes ≡ true
unfolding Computed
no-processes-sound = refl

pub tables-exchanged : (t : Tables) (x y : Request) → touch y x ≡ false → is_accepted t x ≡ true → is_accepted (handle t x).tables y ≡ true → TablesExchanged t x y
tables-exchanged t x y free ok-x ok-y = go (split (sound_processes t.processes))
  where
    two : Tables
    two = tables_of t.records t.positions

    go : (sound_processes t.processes ≡ true) ⊎ (sound_processes t.processes ≡ false) → TablesExchanged t x y
    go (inl sound) = beside-sound t sound x y free ok-x ok-y
    go (inr unsound) =
        let x-no : is_step x ≡ false = no_step t x ok-x unsound in
        let y-no : is_step y ≡ false = no_step (handle t x).tables y ok-y (ap sound_processes (processes-stay t x x-no) ∙ unsound) in
        exchanged-beside t.processes two x y x-no y-no
        (beside-sound two no-processes-sound x y free (sym (accepts-as t.processes two x x-no) ∙ ok-x) (sym (accepts-after t.processes two x y x-no y-no) ∙ ok-y))
