-- Document 02, K1: "one call for 1 to 1,000 trades of six figures (otherwise refusal 3, after 1 and 2, nothing booked), and a lent slice for each booked trade's excess".
use Rattle.std.specs.Prelude.{ℕ, ◌+◌, ◌/◌, ◌%◌, Bool, not, ◌&&◌, List, [], ◌∷◌, map, eqb, leb, ℤ, pos, length, get_or}
use Rattle.std.proofs.Math.Option.{Option, none, some}
use Rattle.rules.specs.Refusal.{Test, test, first_refusal}
use Rattle.rules.specs.Request.{Request, trade}
use Rattle.rules.specs.Layout.{decode}
use Rattle.rules.specs.Tables.{Tables, sound_records, sound_positions}
use Rattle.rules.specs.Handle.{Answer, answer}
use Rattle.rules.specs.Sequence.{Done, Sequence, until_refused}
use Rattle.rules.specs.declared.Reply.{Reply}
use Rattle.rules.specs.declared.Reply.TheVariants.{Booked, ClosingError, Lineage, Refused, Stopped, Written, Replayed, BadLine, LineRefused, Listed}

-- "trades of six figures": id, account, series, side code, quantity, price, the first at this figure.
abbrev pub trade_at : List ℤ → ℕ → Request
trade_at figures at =
    trade (get_or figures at (pos 0)) (get_or figures (at + 1) (pos 0)) (get_or figures (at + 2) (pos 0)) (get_or figures (at + 3) (pos 0)) (get_or figures (at + 4) (pos 0)) (get_or figures (at + 5) (pos 0))

-- The listed trades.
abbrev pub trade_count : List ℤ → ℕ
trade_count figures = length figures / 6

unfoldable pub trades_of : List ℤ → List Request
trades_of figures = decode trade_at 6 (trade_count figures) 0 figures

-- 3: no multiple of six, not "1 to 1,000 trades", "fewer cells than listed trades"
unfoldable pub batch_figures : List ℤ → ℕ → Bool
batch_figures figures cells = eqb (length figures % 6) 0 && leb 1 (trade_count figures) && leb (trade_count figures) 1000 && leb (trade_count figures) cells

unfoldable pub batch_tests : Tables → List ℤ → ℕ → List Test
batch_tests t figures cells =
    test 1 (not (sound_records t.records)) ∷ test 2 (not (sound_positions t.positions)) ∷ test 3 (not (batch_figures figures cells)) ∷ []

abbrev pub batch_refusal : Tables → List ℤ → ℕ → Option Test
batch_refusal t figures cells = first_refusal (batch_tests t figures cells)

-- "each booked trade's excess, 0 if none"
unfoldable pub excess_of : Reply → ℤ
excess_of (Booked rows residual) = pos 0
excess_of (ClosingError excess) = excess
excess_of (Lineage price links) = pos 0
excess_of (Refused number place) = pos 0
excess_of (Stopped booked number place) = pos 0
excess_of (Written bytes) = pos 0
excess_of (Replayed lines) = pos 0
excess_of (BadLine line) = pos 0
excess_of (LineRefused line number place) = pos 0
excess_of (Listed records) = pos 0

unfoldable pub excesses_of : List Done → List ℤ
excesses_of done = map (λ (d : Done). excess_of d.reply) done

-- All booked: booked, a row each. Otherwise it "reports how many were booked and that refusal. Such a stop is an answer of its own."
unfoldable pub batch_reply : ℕ → Option Test → Reply
batch_reply booked none = Booked (pos booked) (pos 0)
batch_reply booked (some refusal) = Stopped (pos booked) (pos refusal.number) (pos refusal.place)

unfoldable pub batch_answer : Sequence → Answer
batch_answer s = record { reply = batch_reply (length s.done) s.stop; output = excesses_of s.done; tables = s.tables }

-- "Tables and answers equal those of the trades handed in one by one": by definition.
unfoldable pub handle_batch : Tables → List ℤ → ℕ → Answer
handle_batch t figures cells = answer (batch_refusal t figures cells) t (batch_answer (until_refused t (trades_of figures)))
