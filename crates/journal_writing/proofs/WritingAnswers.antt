-- The answers of a writing call: refused 3, refused 14, or written; and which of them a request and a batch have. Assumes nothing.
use Prim.Native.Nat.{ℕ, ◌≤◌, ◌<◌}
use mathlib.Core.Path.{◌≡◌, refl, sym, ap, ◌∙◌}
use mathlib.Core.Bool.{Bool, true, false, ◌&&◌}
use mathlib.Core.List.{List, ◌++◌, map, flat_map}
use native.Mathlib.Nat.{zero-add}
use borrow.Author.Tests.{lt-ltb, le-ltb, leb-true}
use lib.Dec.{leb}
use Rattle.keys.proofs.Split.{and_left, and_right}
use lib.IntN.{ℤ, pos}
use lib.ListN.{length, drop}
use Rattle.text.specs.Written.{written}
use Rattle.text.proofs.WrittenLaws.{Wrote}
use Rattle.rules.specs.Refusal.{test, all_of, first_refusal}
use Rattle.rules.specs.Reply.{refused_by}
use Rattle.rules.specs.Batch.{trade_count, trades_of, batch_figures}
use Rattle.rules.specs.Line.{line_of, passes_test3}
use Rattle.rules.specs.Writing.{text_left, left_in, writing, write_trades}
use Rattle.rules.specs.declared.Reply.TheVariants.{Refused, Written}

-- ---- by the two tests

pub refused-3 : (lines buffer : List ℕ) → text_left (Refused (pos 3) (pos 0)) buffer ≡ writing false lines buffer
unfolding writing left_in first_refusal test refused_by
refused-3 lines buffer = refl

module _ (lines buffer : List ℕ) where
  pub refused-14 : length buffer < length lines → text_left (Refused (pos 14) (pos 0)) buffer ≡ writing true lines buffer
  unfolding writing left_in first_refusal test refused_by
  refused-14 short = rw (lt-ltb (length buffer) (length lines) short)

  -- The lines at the front of the buffer, and the place after them.
  pub written-at-front : (end : ℕ) (after : List ℕ) → length lines ≤ length buffer → Wrote lines 0 buffer end after → text_left (Written (pos end)) after ≡ writing true lines buffer
  unfolding writing left_in first_refusal test written
  written-at-front end after room w =
      let n : ℕ = length lines in
      let reaches : end ≡ n = w.0 ∙ zero-add n in
      let front : after ≡ lines ++ drop n buffer = w.1 ∙ ap (λ (k : ℕ). lines ++ drop k buffer) (zero-add n) in
      rw (le-ltb (length buffer) n room) (λ k. record { reply = Written (pos (reaches k)); text = front k })

-- ---- of a batch

module _ (trades : List ℤ) (buffer : List ℕ) where
  abbrev lines : List ℕ
  lines = flat_map line_of (trades_of trades)

  abbrev listed : Bool
  listed = batch_figures trades (trade_count trades)

  abbrev each : Bool
  each = all_of (map passes_test3 (trades_of trades))

  pub trades-tested : {valid : Bool} → valid ≡ (listed && each) → writing valid lines buffer ≡ write_trades trades buffer
  unfolding write_trades
  trades-tested e = ap (λ (valid : Bool). writing valid lines buffer) e

  pub few-trades : true ≡ (listed && each) → trade_count trades ≤ 1000
  unfolding batch_figures
  few-trades passes =
      let counted : leb (trade_count trades) 1000 ≡ true = and_right _ _ (and_left _ _ (and_left listed each (sym passes))) in
      leb-true (trade_count trades) 1000 counted
