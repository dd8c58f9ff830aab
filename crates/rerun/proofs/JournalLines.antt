-- The journal of accepted requests: its lines are those of the requests that have one, each of which passes test 3; so it is read back as just these requests. Left out are the lineages, which
-- change no table: without them the others are done all the same. Assumes nothing.
use mathlib.Core.Path.{◌≡◌, refl, sym, ◌∙◌, ap, subst}
use mathlib.Core.Bool.{true, false, cond}
use mathlib.Core.List.{List, [], ◌∷◌, ◌++◌, flat_map, append_assoc}
use mathlib.Core.Logic.{◌⊎◌, inl, inr}
use Prim.Native.Nat.{ℕ}
use borrow.Author.Tests.{not-false}
use lib.ListN.{length}
use lib.Signed.{lt_z}
use Rattle.rules.specs.Request.{Request, trade, separate, transfer, merge, lineage, give_up, new_day}
use Rattle.rules.specs.Plan.{plan_tests}
use Rattle.rules.specs.Trade.{trade_plan}
use Rattle.rules.specs.Separation.{separation_plan}
use Rattle.rules.specs.Transfer.{transfer_plan}
use Rattle.rules.specs.Merge.{merge_plan}
use Rattle.rules.specs.Lineage.{lineage_plan}
use Rattle.rules.specs.GiveUp.{give_up_plan}
use Rattle.rules.specs.Day.{day_plan}
use Rattle.rules.specs.Line.{line_of, is_journalled, passes_test3}
use Rattle.rules.specs.Figures.{valid_day}
use Rattle.rules.specs.Books.{view_of}
use Rattle.rules.specs.Tables.{Tables, books_of}
use Rattle.rules.specs.Handle.{plan_of, handle}
use Rattle.rules.specs.Sequence.{Done}
use Rattle.rules.specs.Reader.{reading_of}
use Rattle.rules.specs.Call.{Call, requests_of}
use Rattle.rules.specs.Run.{run}
use Rattle.lines.specs.Journalled.{AllJournalled}
use Rattle.lines.specs.LineNumbers.{newlines}
use Rattle.lines.proofs.Journals.{journal-read}
use Rattle.lines.proofs.Newlines.{lines-counted}
use Rattle.keys.proofs.Split.{split, clash, and_left, cond-true, cond-false}
use Rattle.history.specs.History.{is_accepted, Entry, accepted_entries}
use Rattle.rerun.specs.Journal.{lines_of, journal_of, requests_in, journalled}
use Rattle.history.proofs.Accepted.{accepted-rows}
use Rattle.history.proofs.Refusals.{test-passes}
use Rattle.history.proofs.LineageAlone.{lineage-stays}
use Rattle.history.proofs.Sequences.{DoneFrom, requests_done}
use Rattle.rerun.proofs.AcceptedDone.{DoneThese, accepted-done}

-- ---- lines

pub flat_map-append : {A B : Type 0} (f : A → List B) (xs ys : List A) → flat_map f (xs ++ ys) ≡ flat_map f xs ++ flat_map f ys
unfolding flat_map
flat_map-append f [] ys = refl
flat_map-append f (x ∷ xs) ys = ap (λ l. f x ++ l) (flat_map-append f xs ys) ∙ sym (append_assoc (f x) (flat_map f xs) (flat_map f ys))

no_line : (r : Request) → is_journalled r ≡ false → line_of r ≡ []
unfolding is_journalled line_of
no_line (trade id account series side quantity price) h = clash refl h
no_line (separate id suffix account series parts) h = clash refl h
no_line (transfer id suffix from to series) h = clash refl h
no_line (merge id account series pairs) h = clash refl h
no_line (lineage id suffix) h = refl
no_line (give_up step process id suffix giving taking series) h = clash refl h
no_line (new_day day) h = clash refl h

lines-journalled : (rs : List Request) → flat_map line_of rs ≡ flat_map line_of (journalled rs)
unfolding flat_map journalled
lines-journalled [] = refl
lines-journalled (r ∷ rest) = go (split (is_journalled r)) (lines-journalled rest)
  where
    go : (is_journalled r ≡ true) ⊎ (is_journalled r ≡ false) → flat_map line_of rest ≡ flat_map line_of (journalled rest) →
        line_of r ++ flat_map line_of rest ≡ flat_map line_of (cond (is_journalled r) (r ∷ journalled rest) (journalled rest))
    go (inl h) again = ap (λ (l : List ℕ). line_of r ++ l) again ∙ ap (λ (l : List Request). flat_map line_of l) (sym (cond-true (r ∷ journalled rest) (journalled rest) h))
    go (inr h) again =
        ap (λ (l : List ℕ). l ++ flat_map line_of rest) (no_line r h) ∙ again ∙ ap (λ (l : List Request). flat_map line_of l) (sym (cond-false (r ∷ journalled rest) (journalled rest) h))

-- The journal is the lines of the requests that have one.
pub journal-lines : (entries : List Entry) → journal_of entries ≡ flat_map line_of (journalled (requests_in entries))
unfolding journal_of lines_of requests_in flat_map
journal-lines entries = go entries ∙ lines-journalled (requests_in entries)
  where
    go : (l : List Entry) → flat_map (λ (e : Entry). flat_map line_of (requests_of e.call)) l ≡ flat_map line_of (flat_map (λ (e : Entry). requests_of e.call) l)
    go [] = refl
    go (e ∷ rest) =
        ap (λ (l : List ℕ). flat_map line_of (requests_of e.call) ++ l) (go rest)
        ∙ sym (flat_map-append line_of (requests_of e.call) (flat_map (λ (x : Entry). requests_of x.call) rest))

-- ---- test 3

-- Of every request that is accepted: it is its plan's first test; of a new day, whose range alone is test 3 of a line, a part of it.
pub accepted-passes-test-3 : (t : Tables) (r : Request) → is_accepted t r ≡ true → passes_test3 r ≡ true
unfolding passes_test3 plan_of plan_tests trade_plan separation_plan transfer_plan merge_plan lineage_plan give_up_plan day_plan view_of
accepted-passes-test-3 t (trade id account series side quantity price) ok = not-false _ (test-passes 3 _ _ (accepted-rows t (trade id account series side quantity price) ok))
accepted-passes-test-3 t (separate id suffix account series parts) ok = not-false _ (test-passes 3 _ _ (accepted-rows t (separate id suffix account series parts) ok))
accepted-passes-test-3 t (transfer id suffix from to series) ok = not-false _ (test-passes 3 _ _ (accepted-rows t (transfer id suffix from to series) ok))
accepted-passes-test-3 t (merge id account series pairs) ok = not-false _ (test-passes 3 _ _ (accepted-rows t (merge id account series pairs) ok))
accepted-passes-test-3 t (lineage id suffix) ok = not-false _ (test-passes 3 _ _ (accepted-rows t (lineage id suffix) ok))
accepted-passes-test-3 t (give_up step process id suffix giving taking series) ok =
    not-false _ (test-passes 3 _ _ (accepted-rows t (give_up step process id suffix giving taking series) ok))
accepted-passes-test-3 t (new_day day) ok = and_left (valid_day day) (lt_z (books_of t).day day) (not-false _ (test-passes 3 _ _ (accepted-rows t (new_day day) ok)))

-- ---- without the lineages

stays : (t : Tables) (r : Request) → is_journalled r ≡ false → (handle t r).tables ≡ t
unfolding is_journalled
stays t (trade id account series side quantity price) h = clash refl h
stays t (separate id suffix account series parts) h = clash refl h
stays t (transfer id suffix from to series) h = clash refl h
stays t (merge id account series pairs) h = clash refl h
stays t (lineage id suffix) h = lineage-stays t id suffix
stays t (give_up step process id suffix giving taking series) h = clash refl h
stays t (new_day day) h = clash refl h

pub without-lineages : (done : List Done) (t end : Tables) → DoneFrom t done end → DoneThese t (journalled (requests_done done)) end
unfolding journalled
without-lineages [] t end h = record { done = []; from = h; these = refl }
without-lineages (d ∷ rest) t end h = go (split (is_journalled r)) (without-lineages rest (handle t d.request).tables end h.1)
  where
    r : Request
    r = d.request

    go : (is_journalled r ≡ true) ⊎ (is_journalled r ≡ false) → DoneThese (handle t r).tables (journalled (requests_done rest)) end →
        DoneThese t (cond (is_journalled r) (r ∷ journalled (requests_done rest)) (journalled (requests_done rest))) end
    go (inl k) later = record {
      done = d ∷ later.done;
      from = (h.0, later.from);
      these = ap (λ (l : List Request). r ∷ l) later.these ∙ sym (cond-true (r ∷ journalled (requests_done rest)) (journalled (requests_done rest)) k);
    }
    go (inr k) later = record {
      done = later.done;
      from = subst (λ (u : Tables). DoneFrom u later.done end) (stays t r k) later.from;
      these = later.these ∙ sym (cond-false (r ∷ journalled (requests_done rest)) (journalled (requests_done rest)) k);
    }

-- ---- read back

all-journalled : (done : List Done) (t end : Tables) → DoneFrom t done end → AllJournalled (journalled (requests_done done))
unfolding journalled
all-journalled [] t end h = tt
all-journalled (d ∷ rest) t end h = go (split (is_journalled r)) (all-journalled rest (handle t d.request).tables end h.1)
  where
    r : Request
    r = d.request

    go : (is_journalled r ≡ true) ⊎ (is_journalled r ≡ false) → AllJournalled (journalled (requests_done rest)) →
        AllJournalled (cond (is_journalled r) (r ∷ journalled (requests_done rest)) (journalled (requests_done rest)))
    go (inl k) later = subst AllJournalled (sym (cond-true (r ∷ journalled (requests_done rest)) (journalled (requests_done rest)) k)) (k, accepted-passes-test-3 t r h.0.0, later)
    go (inr k) later = subst AllJournalled (sym (cond-false (r ∷ journalled (requests_done rest)) (journalled (requests_done rest)) k)) later

accepted-journalled : (t : Tables) (calls : List Call) → AllJournalled (journalled (requests_in (accepted_entries t calls)))
accepted-journalled t calls =
    let a : DoneThese t (requests_in (accepted_entries t calls)) (run t calls).tables = accepted-done t calls in
    subst (λ (rs : List Request). AllJournalled (journalled rs)) a.these (all-journalled a.done t (run t calls).tables a.from)

-- The journal of the accepted requests of any history, on any tables, is read back as those of them that have a line.
pub journal-of-accepted : (t : Tables) (calls : List Call) →
    reading_of (journal_of (accepted_entries t calls)) ≡ record { requests = journalled (requests_in (accepted_entries t calls)); whole = true }
journal-of-accepted t calls =
    ap reading_of (journal-lines (accepted_entries t calls)) ∙ journal-read (journalled (requests_in (accepted_entries t calls))) (accepted-journalled t calls)

-- It has as many lines.
pub journal-counted : (t : Tables) (calls : List Call) → newlines (journal_of (accepted_entries t calls)) ≡ length (journalled (requests_in (accepted_entries t calls)))
journal-counted t calls = ap newlines (journal-lines (accepted_entries t calls)) ∙ lines-counted (journalled (requests_in (accepted_entries t calls))) (accepted-journalled t calls)
