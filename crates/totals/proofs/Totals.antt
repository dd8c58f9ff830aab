-- Document 02, K7: "Every request adds to the stored figures what it changes in these sums, so true ones stay true; from empty tables they equal the sums over the records."
--
-- Whatever the tables, sound or not, and whatever the request, refused or accepted: each stored figure is as far from its sum afterwards as before (`as-untrue-as-before`), so totals that came untrue from
-- elsewhere stay as untrue as they were, and true ones stay true (`request-true`). So do batches, stopped or not, replays and reporting lists (`call-true`), and lists of calls (`calls-true`). Tables without
-- rows have true totals (`empty-true`), and so has what any list of calls makes of them (`from_empty`).
--
-- A refused request changes nothing; an accepted one adds the same to stored figures and sums (Handled). Assumes nothing.
use mathlib.Core.Path.{◌≡◌, refl, sym, ◌∙◌, ap, ap₂, subst}
use mathlib.Core.Bool.{true, false}
use mathlib.Core.List.{List, [], ◌∷◌}
use mathlib.Core.Logic.{◌⊎◌, inl, inr}
use mathlib.Core.Option.{Option, none, some}
use lib.IntN.{ℤ, pos, ◌+ℤ◌, ◌-ℤ◌}
use Rattle.integers.proofs.Linear.{zarith, +-lin, minus-lin}
use Rattle.rules.specs.Rows.{key_of, position_key, zero_position, or_zeros}
use Rattle.rules.specs.Refusal.{Test}
use Rattle.rules.specs.Request.{Request}
use Rattle.rules.specs.Books.{Books, view_of}
use Rattle.rules.specs.Layout.{count_of}
use Rattle.rules.specs.Tables.{Tables, records_layout, positions_layout, books_of}
use Rattle.rules.specs.Handle.{answer, handle}
use Rattle.rules.specs.Sequence.{Done, Sequence, until_refused}
use Rattle.rules.specs.Batch.{trades_of, batch_refusal, batch_answer, handle_batch}
use Rattle.rules.specs.Reader.{reading_of}
use Rattle.rules.specs.Replay.{replay_answer, handle_replay}
use Rattle.rules.specs.Call.{Call, one, trades, replay, reportable, handle_call}
use Rattle.rules.specs.Run.{after_reply, run}
use Rattle.rules.specs.Totals.{live_records, sum_over, total_quantity, total_value, TrueTotals}
use Rattle.rules.specs.declared.Position.{Position}
use Rattle.keys.proofs.Split.{split}
use Rattle.keys.proofs.Clauses.{find-nil}
use Rattle.soundness.proofs.ReadPosition.{read_at}
use Rattle.history.specs.History.{is_accepted}
use Rattle.history.proofs.Accepted.{refused-tables}
use Rattle.history.proofs.DayAlone.{list-stays}
use Rattle.history.proofs.Sequences.{DoneFrom, done-from}
use Rattle.history.proofs.Empty.{no_rows}
use Rattle.totals.specs.Amounts.{amounts_of}
use Rattle.totals.specs.Adds.{Adds, quantity_off, value_off, AsTrue}
use Rattle.totals.proofs.Handled.{handled-adds}

-- ---- books

same : (b : Books) → AsTrue b b
same b = record { quantities = λ a s. refl; values = λ a s. refl }

in-turn : (b c d : Books) → AsTrue b c → AsTrue c d → AsTrue b d
in-turn b c d h k = record {
  quantities = λ a s. k.quantities a s ∙ h.quantities a s;
  values = λ a s. k.values a s ∙ h.values a s;
}

-- Both figures grow by the same amount.
difference : (stored total amount : ℤ) → (stored +ℤ amount) -ℤ (total +ℤ amount) ≡ stored -ℤ total
difference stored total amount =
    omega (zarith, +-lin stored amount, +-lin total amount, minus-lin (stored +ℤ amount) (total +ℤ amount), minus-lin stored total)

-- ---- one request

accepted-as-true : (t : Tables) (r : Request) → is_accepted t r ≡ true → AsTrue (books_of t) (books_of (handle t r).tables)
unfolding quantity_off value_off
accepted-as-true t r ok = record {
  quantities = λ account series.
      let h : AddsAt account series = handled-adds t r ok account series in
      ap₂ (λ (x y : ℤ). x -ℤ y) h.quantity-stored h.quantity-summed
      ∙ difference ((view_of b).position_at account series).quantity (total_quantity account series b.records) (amounts_of (view_of b) r account series).quantity;
  values = λ account series.
      let h : AddsAt account series = handled-adds t r ok account series in
      ap₂ (λ (x y : ℤ). x -ℤ y) h.value-stored h.value-summed
      ∙ difference ((view_of b).position_at account series).value (total_value account series b.records) (amounts_of (view_of b) r account series).value;
}
  where
    b : Books
    b = books_of t

    AddsAt : (account series : ℤ) → Type 0
    AddsAt account series = Adds (books_of t) (books_of (handle t r).tables) account series (amounts_of (view_of (books_of t)) r account series)

-- The stored figures of every account and series are as far from their sums as they were, whatever the tables and the request.
pub as-untrue-as-before : (t : Tables) (r : Request) → AsTrue (books_of t) (books_of (handle t r).tables)
as-untrue-as-before t r = go (split (is_accepted t r))
  where
    go : (is_accepted t r ≡ true) ⊎ (is_accepted t r ≡ false) → AsTrue (books_of t) (books_of (handle t r).tables)
    go (inl ok) = accepted-as-true t r ok
    go (inr not-ok) = subst (λ (u : Tables). AsTrue (books_of t) (books_of u)) (sym (refused-tables t r not-ok)) (same (books_of t))

-- ---- calls

done-as-untrue : (done : List Done) (t end : Tables) → DoneFrom t done end → AsTrue (books_of t) (books_of end)
done-as-untrue [] t end h = subst (λ (u : Tables). AsTrue (books_of t) (books_of u)) h (same (books_of t))
done-as-untrue (d ∷ rest) t end h =
    in-turn (books_of t) (books_of (handle t d.request).tables) (books_of end) (as-untrue-as-before t d.request) (done-as-untrue rest (handle t d.request).tables end h.1)

pub call-as-untrue : (t : Tables) (c : Call) → AsTrue (books_of t) (books_of (handle_call t c).tables)
unfolding handle_call handle_batch handle_replay answer batch_answer replay_answer
call-as-untrue t (one r) = as-untrue-as-before t r
call-as-untrue t (trades figures cells) = go (batch_refusal t figures cells)
  where
    s : Sequence
    s = until_refused t (trades_of figures)

    go : (o : Option Test) → AsTrue (books_of t) (books_of (answer o t (batch_answer s)).tables)
    go none = done-as-untrue s.done t s.tables (done-from t (trades_of figures))
    go (some x) = same (books_of t)
call-as-untrue t (replay text) =
    let s : Sequence = until_refused t (reading_of text).requests in
    done-as-untrue s.done t s.tables (done-from t (reading_of text).requests)
call-as-untrue t (reportable cells) = subst (λ (u : Tables). AsTrue (books_of t) (books_of u)) (sym (list-stays t cells)) (same (books_of t))

pub calls-as-untrue : (t : Tables) (calls : List Call) → AsTrue (books_of t) (books_of (run t calls).tables)
unfolding run after_reply
calls-as-untrue t [] = same (books_of t)
calls-as-untrue t (c ∷ rest) =
    in-turn (books_of t) (books_of (handle_call t c).tables) (books_of (run (handle_call t c).tables rest).tables) (call-as-untrue t c) (calls-as-untrue (handle_call t c).tables rest)

-- ---- "so true ones stay true"

equal-again : (x y u v : ℤ) → x -ℤ y ≡ u -ℤ v → u ≡ v → x ≡ y
equal-again x y u v h e = omega (zarith, h, e, minus-lin x y, minus-lin u v)

stays-true : (b c : Books) → AsTrue b c → TrueTotals b → TrueTotals c
unfolding quantity_off value_off
stays-true b c h m = record {
  quantities = λ a s. equal-again _ _ _ _ (h.quantities a s) (m.quantities a s);
  values = λ a s. equal-again _ _ _ _ (h.values a s) (m.values a s);
}

pub request-true : (t : Tables) (r : Request) → TrueTotals (books_of t) → TrueTotals (books_of (handle t r).tables)
request-true t r m = stays-true (books_of t) (books_of (handle t r).tables) (as-untrue-as-before t r) m

pub call-true : (t : Tables) (c : Call) → TrueTotals (books_of t) → TrueTotals (books_of (handle_call t c).tables)
call-true t c m = stays-true (books_of t) (books_of (handle_call t c).tables) (call-as-untrue t c) m

pub calls-true : (t : Tables) (calls : List Call) → TrueTotals (books_of t) → TrueTotals (books_of (run t calls).tables)
calls-true t calls m = stays-true (books_of t) (books_of (run t calls).tables) (calls-as-untrue t calls) m

-- ---- "from empty tables they equal the sums over the records"

-- The figures of an absent position are zeros, and so are sums over no records.
zero-stored : (figure : Position → ℤ) (a s : ℤ) → figure (zero_position a s) ≡ pos 0 → (positions : List Position) → positions ≡ [] → figure (read_at a s positions) ≡ pos 0
unfolding or_zeros
zero-stored figure a s zero-figure positions e =
    ap (λ (t : List Position). figure (read_at a s t)) e ∙ ap (λ (o : Option Position). figure (or_zeros a s o)) (find-nil position_key (key_of a s)) ∙ zero-figure

pub empty-true : (t : Tables) → count_of t.records ≡ pos 0 → count_of t.positions ≡ pos 0 → TrueTotals (books_of t)
unfolding books_of view_of zero_position total_quantity total_value live_records sum_over
empty-true t no-records no-positions =
    let records : (books_of t).records ≡ [] = no_rows records_layout t.records no-records in
    let positions : (books_of t).positions ≡ [] = no_rows positions_layout t.positions no-positions in
    record {
      quantities = λ a s. zero-stored (λ (p : Position). p.quantity) a s refl (books_of t).positions positions ∙ sym (ap (total_quantity a s) records);
      values = λ a s. zero-stored (λ (p : Position). p.value) a s refl (books_of t).positions positions ∙ sym (ap (total_value a s) records);
    }

pub from_empty : (t : Tables) → count_of t.records ≡ pos 0 → count_of t.positions ≡ pos 0 → (calls : List Call) → TrueTotals (books_of (run t calls).tables)
from_empty t no-records no-positions calls = calls-true t calls (empty-true t no-records no-positions)
