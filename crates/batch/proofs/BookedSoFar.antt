-- The loop of a batch: what holds before each turn, after a trade that is booked, where a trade stops it, and at its end. Assumes nothing.
use Prim.Native.Nat.{ℕ, suc, ◌+◌, ◌-◌, ◌*◌, ◌%◌, ◌≤◌, ◌<◌}
use native.Mathlib.Omega.{arith}
use mathlib.Core.Path.{◌≡◌, refl, sym, ◌∙◌, ap, ap₂}
use mathlib.Core.Bool.{true, false, ◌&&◌}
use mathlib.Core.List.{List, [], ◌∷◌, ◌++◌, append-nil, append_assoc, map-append}
use mathlib.Core.Option.{Option, none, some}
use borrow.Author.Tests.{not-false, leb-true}
use lib.Dec.{eqb, leb}
use lib.IntN.{ℤ, pos}
use lib.ListN.{length, get_or, drop, set, length-append, length-map, length-set}
use lib.Seq.{drop-cons, set_at}
use Rattle.rules.specs.Refusal.{Test}
use Rattle.rules.specs.Request.{Request}
use Rattle.rules.specs.Layout.{decode}
use Rattle.rules.specs.Tables.{Tables, tables_of, sound_records, sound_positions}
use Rattle.rules.specs.Handle.{refusal_of, handle}
use Rattle.rules.specs.Left.{left, left_by, written_to}
use Rattle.rules.specs.Sequence.{Done, Sequence, goes_on, until_refused}
use Rattle.rules.specs.Batch.{trade_at, trade_count, trades_of, batch_figures, excess_of, excesses_of, batch_reply, batch_answer}
use Rattle.rules.specs.declared.Reply.{Reply}
use Rattle.rules.specs.declared.Reply.TheVariants as Reply
use Rattle.keys.proofs.Split.{and_left, and_right}
use Rattle.cells.proofs.Decode.{decode-step}
use Rattle.history.specs.History.{is_accepted}
use Rattle.history.specs.Answers.{is_refusal}
use Rattle.history.proofs.Accepted.{accepted-none, refused-tables}
use Rattle.history.proofs.Answers.{refusal-exactly, refused-not-accepted}
use Rattle.batch.specs.Outcome.{outcome_of}
use Rattle.batch.specs.BookedSoundly.{BookedSoundly}
use Rattle.batch.specs.Outcome.{Booked, Refused}

-- Test 3 passed: so many trades at most, and a cell for each.
pub trades-fit : (trades : List ℤ) (cells : ℕ) → batch_figures trades cells ≡ true → (trade_count trades ≤ 1000) × (trade_count trades ≤ cells)
unfolding batch_figures
trades-fit trades cells h =
    let n : ℕ = trade_count trades in
    let listed : (eqb (length trades % 6) 0 && leb 1 n && leb n 1000) ≡ true = and_left _ (leb n cells) h in (
      leb-true n 1000 (and_right (eqb (length trades % 6) 0 && leb 1 n) (leb n 1000) listed),
      leb-true n cells (and_right (eqb (length trades % 6) 0 && leb 1 n && leb n 1000) (leb n cells) h),
    )

-- ---- by what became of a trade

-- Booked: the reply is no refusal, and its excess is this.
booked-reply : (reply : Reply) (over : ℤ) → Booked over ≡ outcome_of reply → (is_refusal reply ≡ false) × (over ≡ excess_of reply)
unfolding is_refusal excess_of
booked-reply (Reply.Booked rows residual) over h = (refl, cc)
booked-reply (Reply.ClosingError excess) over h = (refl, cc)
booked-reply (Reply.Lineage price links) over h = (refl, cc)
booked-reply (Reply.Refused number place) over h = let z : ◌≡◌ {A = ℕ} 0 1 = cc in absurd (omega arith)
booked-reply (Reply.Stopped booked number place) over h = (refl, cc)
booked-reply (Reply.Written bytes) over h = (refl, cc)
booked-reply (Reply.Replayed lines) over h = (refl, cc)
booked-reply (Reply.BadLine line) over h = (refl, cc)
booked-reply (Reply.LineRefused line number place) over h = (refl, cc)
booked-reply (Reply.Listed records) over h = (refl, cc)

refused-reply : (reply : Reply) (number place : ℤ) → Refused number place ≡ outcome_of reply → reply ≡ Reply.Refused number place
refused-reply (Reply.Booked rows residual) number place h = let z : ◌≡◌ {A = ℕ} 0 1 = cc in absurd (omega arith)
refused-reply (Reply.ClosingError excess) number place h = let z : ◌≡◌ {A = ℕ} 0 1 = cc in absurd (omega arith)
refused-reply (Reply.Lineage price links) number place h = let z : ◌≡◌ {A = ℕ} 0 1 = cc in absurd (omega arith)
refused-reply (Reply.Refused n p) number place h =
    let same_number : n ≡ number = cc in
    let same_place : p ≡ place = cc in
    λ i. Reply.Refused (same_number i) (same_place i)
refused-reply (Reply.Stopped booked n p) number place h = let z : ◌≡◌ {A = ℕ} 0 1 = cc in absurd (omega arith)
refused-reply (Reply.Written bytes) number place h = let z : ◌≡◌ {A = ℕ} 0 1 = cc in absurd (omega arith)
refused-reply (Reply.Replayed lines) number place h = let z : ◌≡◌ {A = ℕ} 0 1 = cc in absurd (omega arith)
refused-reply (Reply.BadLine line) number place h = let z : ◌≡◌ {A = ℕ} 0 1 = cc in absurd (omega arith)
refused-reply (Reply.LineRefused line n p) number place h = let z : ◌≡◌ {A = ℕ} 0 1 = cc in absurd (omega arith)
refused-reply (Reply.Listed records) number place h = let z : ◌≡◌ {A = ℕ} 0 1 = cc in absurd (omega arith)

-- ---- the sequence so far, and its rest

abbrev after : List Done → Sequence → Sequence
after done s = record { done = done ++ s.done; stop = s.stop; tables = s.tables }

-- The trades from the i-th on, counted from 0.
abbrev trades_from : List ℤ → ℕ → List Request
trades_from trades i = decode trade_at 6 (trade_count trades - i) (i * 6) trades

pub record BookedSoFar (start : Tables) (trades excess₀ records positions excess : List ℤ) (i : ℕ) : Type 0 where
  pub done : List Done
  pub count : length done ≡ i
  pub within : i ≤ trade_count trades
  pub rest : until_refused start (trades_of trades) ≡ after done (until_refused (tables_of records positions) (trades_from trades i))
  pub records-sound : sound_records records ≡ true
  pub positions-sound : sound_positions positions ≡ true
  pub written : excess ≡ written_to excess₀ (excesses_of done)
  pub same_size : length excess ≡ length excess₀
  pub records-size : length records ≡ length start.records
  pub positions-size : length positions ≡ length start.positions

pub none-booked : (records positions trades excess₀ : List ℤ) → sound_records records ≡ true → sound_positions positions ≡ true →
    BookedSoFar (tables_of records positions) trades excess₀ records positions excess₀ 0
unfolding trades_of written_to excesses_of
none-booked records positions trades excess₀ h k =
    let all : trade_count trades ≡ trade_count trades - 0 = omega arith in
    record {
      done = [];
      count = refl;
      within = omega arith;
      rest = ap (λ (n : ℕ). until_refused (tables_of records positions) (decode trade_at 6 n 0 trades)) all;
      records-sound = h;
      positions-sound = k;
      written = refl;
      same_size = refl;
      records-size = refl;
      positions-size = refl;
    }

module _ (start : Tables) (trades excess₀ : List ℤ) where
  module _ (records positions excess : List ℤ) (i : ℕ) (b : BookedSoFar start trades excess₀ records positions excess i) where
    abbrev now : Tables
    now = tables_of records positions

    abbrev this : Request
    this = trade_at trades (i * 6)

    next-trade : i < trade_count trades → trades_from trades i ≡ this ∷ trades_from trades (i + 1)
    next-trade more =
        let fewer : trade_count trades - i - 1 ≡ trade_count trades - (i + 1) = omega arith in
        let further : i * 6 + 6 ≡ (i + 1) * 6 = omega arith in
        decode-step trade_at 6 (trade_count trades - i) (i * 6) trades (omega arith) ∙ ap₂ (λ (n at : ℕ). this ∷ decode trade_at 6 n at trades) fewer further

    abbrev later : Sequence
    later = until_refused (handle now this).tables (trades_from trades (i + 1))

    -- The whole sequence, with the next trade taken off.
    taken : i < trade_count trades → until_refused start (trades_of trades) ≡ after b.done (goes_on now this (refusal_of now this) later)
    unfolding until_refused
    taken more = b.rest ∙ ap (λ (l : List Request). after b.done (until_refused now l)) (next-trade more)

    -- A trade that is booked: the reply is no refusal and its excess is this, so that the sequence goes on, and the excess follows those before it.
    module _ (over : ℤ) (told : (is_refusal (handle now this).reply ≡ false) × (over ≡ excess_of (handle now this).reply)) where
      abbrev done' : List Done
      done' = b.done ++ (record { request = this; reply = (handle now this).reply } ∷ [])

      goes-on : i < trade_count trades → until_refused start (trades_of trades) ≡ after done' later
      unfolding goes_on
      goes-on more =
          let ok : is_accepted now this ≡ true = not-false (is_accepted now this) (sym (refusal-exactly now this) ∙ told.0) in
          let gone : until_refused start (trades_of trades) ≡ after b.done (goes_on now this none later) =
          taken more ∙ ap (λ (o : Option Test). after b.done (goes_on now this o later)) (accepted-none now this ok) in
          gone ∙ ap (λ (l : List Done). record { done = l; stop = later.stop; tables = later.tables }) (sym (append_assoc b.done (record { request = this; reply = (handle now this).reply } ∷ []) later.done))

      longer : excesses_of done' ≡ excesses_of b.done ++ (over ∷ [])
      unfolding excesses_of
      longer = map-append _ b.done (record { request = this; reply = (handle now this).reply } ∷ []) ∙ ap (λ (x : ℤ). excesses_of b.done ++ (x ∷ [])) (sym told.1)

      as_many : length (excesses_of b.done) ≡ i
      unfolding excesses_of
      as_many = length-map b.done _ ∙ b.count

      written_next : i < length excess₀ → set excess i over ≡ written_to excess₀ (excesses_of done')
      unfolding written_to
      written_next room =
          let before : excess ≡ excesses_of b.done ++ (get_or excess₀ i (pos 0) ∷ drop (suc i) excess₀) =
          b.written ∙ ap (λ (n : ℕ). excesses_of b.done ++ drop n excess₀) as_many ∙ ap (λ (l : List ℤ). excesses_of b.done ++ l) (drop-cons excess₀ i (pos 0) room) in
          let one-longer : suc i ≡ length (excesses_of b.done ++ (over ∷ [])) = omega (arith, length-append (excesses_of b.done) (over ∷ []), as_many) in
          let set-it : set excess i over ≡ (excesses_of b.done ++ (over ∷ [])) ++ drop (suc i) excess₀ =
          ap (λ (l : List ℤ). set l i over) before
          ∙ set_at (excesses_of b.done) (get_or excess₀ i (pos 0)) (drop (suc i) excess₀) over i as_many
          ∙ sym (append_assoc (excesses_of b.done) (over ∷ []) (drop (suc i) excess₀)) in
          set-it ∙ ap (λ (n : ℕ). (excesses_of b.done ++ (over ∷ [])) ++ drop n excess₀) one-longer
          ∙ ap (λ (l : List ℤ). l ++ drop (length l) excess₀) (sym longer)

    pub one_more : (over : ℤ) (records' positions' : List ℤ) → i < trade_count trades → i < length excess₀ → BookedSoundly now this (Booked over) (tables_of records' positions') →
        length records' ≡ length records → length positions' ≡ length positions →
        BookedSoFar start trades excess₀ records' positions' (set excess i over) (i + 1)
    one_more over records' positions' more room w same-records same-positions =
        let told : (is_refusal (handle now this).reply ≡ false) × (over ≡ excess_of (handle now this).reply) = booked-reply (handle now this).reply over w.outcome in
        record {
          done = done' over told;
          count = length-append b.done _ ∙ ap (λ (n : ℕ). n + 1) b.count;
          within = omega (arith, more);
          rest = goes-on over told more ∙ ap (λ (t : Tables). after (done' over told) (until_refused t (trades_from trades (i + 1)))) (sym w.tables);
          records-sound = w.records-sound;
          positions-sound = w.positions-sound;
          written = written_next over told room;
          same_size = length-set excess i over ∙ b.same_size;
          records-size = same-records ∙ b.records-size;
          positions-size = same-positions ∙ b.positions-size;
        }

    -- A trade that is refused stops the batch.
    pub stopped : (number place : ℤ) (records' positions' : List ℤ) → i < trade_count trades → BookedSoundly now this (Refused number place) (tables_of records' positions') →
        left (Reply.Stopped (pos i) number place) excess records' positions' ≡ left_by excess₀ (batch_answer (until_refused start (trades_of trades)))
    unfolding goes_on batch_answer batch_reply
    stopped number place records' positions' more w =
        let reply : Reply = (handle now this).reply in
        let told = refused-not-accepted now this number place (refused-reply reply number place w.outcome) in
        let first : Test = told.1.0 in
        let same : tables_of records' positions' ≡ now = w.tables ∙ refused-tables now this told.0 in
        let ends : until_refused start (trades_of trades) ≡ record { done = b.done; stop = some first; tables = now } =
        taken more ∙ ap (λ (o : Option Test). after b.done (goes_on now this o later)) told.1.1
        ∙ ap (λ (l : List Done). record { done = l; stop = some first; tables = now }) (append-nil b.done) in
        (λ k. record { reply = Reply.Stopped (pos (sym b.count k)) (told.1.2 k) (told.1.3 k); output = b.written k; tables = same k })
        ∙ ap (λ (s : Sequence). left_by excess₀ (batch_answer s)) (sym ends)

    -- No trade is left.
    pub all-booked : trade_count trades ≤ i → i ≤ trade_count trades →
        left (Reply.Booked (pos (trade_count trades)) (pos 0)) excess records positions ≡ left_by excess₀ (batch_answer (until_refused start (trades_of trades)))
    unfolding until_refused batch_answer batch_reply
    all-booked over under =
        let e : trade_count trades - i ≡ 0 = omega arith in
        let ends : until_refused start (trades_of trades) ≡ record { done = b.done; stop = none; tables = now } =
        b.rest ∙ ap (λ (n : ℕ). after b.done (until_refused now (decode trade_at 6 n (i * 6) trades))) e
        ∙ ap (λ (l : List Done). record { done = l; stop = none; tables = now }) (append-nil b.done) in
        let n : trade_count trades ≡ length b.done = omega (arith, b.count) in
        (λ k. record { reply = Reply.Booked (pos (n k)) (pos 0); output = b.written k; tables = now })
        ∙ ap (λ (s : Sequence). left_by excess₀ (batch_answer s)) (sym ends)
