-- The lines of a journal, by computation: document 02's own line, written and read, and lines that are bad. An edit of a definition that goes wrong there is refused here. Assumes nothing.
use Prim.Native.Nat.{ℕ}
use mathlib.Core.Path.{◌≡◌, refl}
use mathlib.Core.List.{List, [], ◌∷◌, ◌++◌}
use mathlib.Core.Option.{none, some}
use lib.IntN.{pos, negsuc}
use lib.ListN.{replicate}
use Rattle.rules.specs.Request.{Request, trade, separate, transfer, merge, give_up}
use Rattle.rules.specs.Line.{line_of}
use Rattle.rules.specs.Reader.{request_of}
use Rattle.rules.specs.Call.{replay, handle_call}
use Rattle.rules.specs.Writing.{write_request, write_give_up, text_left}
use Rattle.rules.specs.SmallTables.{empty}
use Rattle.rules.specs.SmallTexts.{p11_trade, hundred, price, trade_line, p11_line}
use Rattle.rules.specs.declared.Step.TheVariants.{Claim}
use Rattle.rules.specs.declared.Reply.TheVariants.{Written, Refused, Replayed, BadLine, LineRefused}
use Rattle.rules.proofs.Computed.{Computed}

pub p11-line-written : line_of p11_trade ≡ p11_line
unfolding Computed
p11-line-written = refl

pub p11-line-read : request_of p11_line ≡ some p11_trade
unfolding Computed
p11-line-read = refl

-- Every kind is read as it is written.
abbrev ReadBack : Request → Type 0
ReadBack r = request_of (line_of r) ≡ some r

pub separation-read : ReadBack (separate (pos 7) (pos 0) (pos 1) (pos 1) (pos 60 ∷ pos 40 ∷ []))
unfolding Computed
separation-read = refl

pub transfer-read : ReadBack (transfer (pos 7) (pos 65535) (pos 1) (pos 9999) (pos 1))
unfolding Computed
transfer-read = refl

pub merge-read : ReadBack (merge (pos 8) (pos 1) (pos 1) (pos 7 ∷ pos 2 ∷ pos 7 ∷ pos 3 ∷ []))
unfolding Computed
merge-read = refl

pub step-read : ReadBack (give_up Claim (pos 77) (pos 7) (pos 0) (pos 1) (pos 2) (pos 1))
unfolding Computed
step-read = refl

-- The least price has 13 digits.
pub least-price-read : ReadBack (trade (pos 1) (pos 1) (pos 1) (pos 4) (pos 1000000) (negsuc 999999999999))
unfolding Computed
least-price-read = refl

-- ---- bad lines

abbrev Bad : List ℕ → Type 0
Bad line = request_of line ≡ none

pub leading-zero : Bad (trade_line (9 ∷ 48 ∷ 49 ∷ 48 ∷ 48 ∷ []) price (10 ∷ []))
unfolding Computed
leading-zero = refl

pub plus : Bad (trade_line (9 ∷ 43 ∷ 49 ∷ []) price (10 ∷ []))
unfolding Computed
plus = refl

pub minus-zero : Bad (trade_line hundred (9 ∷ 45 ∷ 48 ∷ []) (10 ∷ []))
unfolding Computed
minus-zero = refl

pub no-newline : Bad (trade_line hundred price [])
unfolding Computed
no-newline = refl

pub carriage-return : Bad (trade_line hundred price (13 ∷ 10 ∷ []))
unfolding Computed
carriage-return = refl

pub empty-field : Bad (trade_line hundred (9 ∷ []) (10 ∷ []))
unfolding Computed
empty-field = refl

pub tab-at-the-end : Bad (trade_line hundred price (9 ∷ 10 ∷ []))
unfolding Computed
tab-at-the-end = refl

pub field-too-many : Bad (trade_line hundred price (9 ∷ 49 ∷ 10 ∷ []))
unfolding Computed
field-too-many = refl

-- Fourteen digits, and a price beyond its range.
pub fourteen-digits : Bad (trade_line hundred (9 ∷ replicate 14 49) (10 ∷ []))
unfolding Computed
fourteen-digits = refl

pub price-out-of-range : Bad (trade_line hundred (9 ∷ 57 ∷ replicate 12 48) (10 ∷ []))
unfolding Computed
price-out-of-range = refl

pub empty-line : Bad (10 ∷ [])
unfolding Computed
empty-line = refl

-- ---- replays

pub nothing-replayed : (handle_call (empty 29 7) (replay [])).reply ≡ Replayed (pos 0)
unfolding Computed
nothing-replayed = refl

pub one-line-replayed : (handle_call (empty 29 7) (replay p11_line)).reply ≡ Replayed (pos 1)
unfolding Computed
one-line-replayed = refl

-- The same line again is refused 4, and lines are counted from 1; a bad line after it isn't reached.
pub second-line-refused : (handle_call (empty 29 7) (replay (p11_line ++ (p11_line ++ (10 ∷ []))))).reply ≡ LineRefused (pos 2) (pos 4) (pos 0)
unfolding Computed
second-line-refused = refl

pub second-line-bad : (handle_call (empty 29 7) (replay (p11_line ++ (10 ∷ p11_line)))).reply ≡ BadLine (pos 2)
unfolding Computed
second-line-bad = refl

-- ---- writing

-- The byte past what is written stays.
pub p11-line-in-a-buffer : write_request p11_trade (replicate 31 7) ≡ text_left (Written (pos 30)) (p11_line ++ (7 ∷ []))
unfolding Computed
p11-line-in-a-buffer = refl

-- 3 comes before 14, and a refusal leaves the buffer.
pub three-before-fourteen : write_request (trade (pos 0) (pos 1) (pos 1) (pos 1) (pos 1) (pos 1)) [] ≡ text_left (Refused (pos 3) (pos 0)) []
unfolding Computed
three-before-fourteen = refl

pub buffer-too-short : write_request p11_trade (replicate 29 7) ≡ text_left (Refused (pos 14) (pos 0)) (replicate 29 7)
unfolding Computed
buffer-too-short = refl

-- Z is no step's letter.
pub no-such-step : write_give_up (pos 90) (pos 77) (pos 7) (pos 0) (pos 1) (pos 2) (pos 1) [] ≡ text_left (Refused (pos 3) (pos 0)) []
unfolding Computed
no-such-step = refl
