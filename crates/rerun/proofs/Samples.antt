-- The theorems are not hollow: the sample history of `history`, journalled and replayed; texts with a bad and a refused line; lines written of a step and of a batch that stopped. By computation.
-- Assumes nothing.
use mathlib.Core.Path.{◌≡◌, refl}
use mathlib.Core.List.{[], ◌++◌}
use mathlib.Core.Option.{none}
use lib.IntN.{pos}
use Rattle.rules.specs.Line.{line_of}
use Rattle.rules.specs.Reader.{take_request}
use Rattle.rules.specs.Call.{trades, replay, handle_call}
use Rattle.rules.specs.Writing.{write_trades, write_give_up}
use Rattle.rules.specs.declared.Step.TheVariants.{Claim}
use Rattle.rules.specs.declared.Reply.TheVariants.{Stopped, Replayed, BadLine, LineRefused}
use Rattle.rules.proofs.Computed.{Computed}
use Rattle.lines.specs.LineNumbers.{newlines, after_newline, after_newlines, from_line}
use Rattle.history.specs.History.{is_accepted, call_accepted, booked_by, entries_of}
use Rattle.history.specs.Sample.{start, other_cells, trade1, trade3, give_up2, accepted, finish_elsewhere}
use Rattle.rerun.specs.Journal.{lines_of, journal_of}
use Rattle.rerun.specs.LinesLeft.{lines_left, first_trades}
use Rattle.rerun.specs.Rerun.{Rerun}
use Rattle.rerun.specs.Sample.{trade_and_day, traded_by_day1, letter_alone, third_bad, third_refused, same_twice, buffer}

unfoldable ComputedJournal : Type 0
unfolding Computed newlines after_newline after_newlines from_line is_accepted call_accepted booked_by entries_of lines_of journal_of first_trades
ComputedJournal = Unit {0}

-- ---- a day rerun

-- The journal of these three days, in empty tables of the same room with other cells: a line for each accepted request but the lineage and the lists, two for the batch, two D lines among them, all booked;
-- and the rows, with their days, and the current day are the same.
pub sample-rerun-reply : (handle_call other_cells (replay (journal_of accepted))).reply ≡ Replayed (pos 18)
unfolding ComputedJournal
sample-rerun-reply = refl

pub sample-rerun-rows : (handle_call other_cells (replay (journal_of accepted))).tables ≡ finish_elsewhere
unfolding ComputedJournal
sample-rerun-rows = refl

pub sample-lines : newlines (journal_of accepted) ≡ 18
unfolding ComputedJournal
sample-lines = refl

-- Trade 1 and a new day: each field of the statement.
pub small-rerun : Rerun trade_and_day (handle_call other_cells (replay trade_and_day)) traded_by_day1
unfolding ComputedJournal
small-rerun = record { every-line = refl; records = refl; positions = refl; processes = refl; day = refl; rooms = record { records = refl; positions = refl; processes = refl } }

-- ---- lines by their numbers

pub third-line-bad : (handle_call start (replay third_bad)).reply ≡ BadLine (pos 3)
unfolding ComputedJournal
third-line-bad = refl

pub from-the-third : from_line 3 third_bad ≡ letter_alone ++ line_of trade3
unfolding ComputedJournal
from-the-third = refl

pub third-not-accepted : take_request (from_line 3 third_bad) ≡ none
unfolding ComputedJournal
third-not-accepted = refl

pub four-lines : newlines third_bad ≡ 4
unfolding ComputedJournal
four-lines = refl

pub after-the-fourth : from_line 5 third_bad ≡ []
unfolding ComputedJournal
after-the-fourth = refl

pub third-line-refused : (handle_call start (replay third_refused)).reply ≡ LineRefused (pos 3) (pos 4) (pos 0)
unfolding ComputedJournal
third-line-refused = refl

pub from-the-refused : from_line 3 third_refused ≡ line_of trade1 ++ from_line 4 third_refused
unfolding ComputedJournal
from-the-refused = refl

-- ---- written

-- A claim, by the number of its letter, 67.
pub claim-written : write_give_up (pos 67) (pos 90) (pos 2) (pos 0) (pos 20) (pos 21) (pos 5) buffer ≡ lines_left (line_of (give_up2 Claim)) buffer
unfolding ComputedJournal
claim-written = refl

-- Of the batch one trade is booked; its line is written, and is what stands for it in the journal.
pub stops-at-the-second : (handle_call start (trades same_twice 2)).reply ≡ Stopped (pos 1) (pos 4) (pos 0)
unfolding ComputedJournal
stops-at-the-second = refl

pub first-written : write_trades (first_trades 1 same_twice) buffer ≡ lines_left (line_of trade1) buffer
unfolding ComputedJournal
first-written = refl

pub first-journalled : journal_of (entries_of start (trades same_twice 2)) ≡ line_of trade1
unfolding ComputedJournal
first-journalled = refl
