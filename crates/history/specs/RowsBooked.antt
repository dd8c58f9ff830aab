-- The rows that a call adds to the records table: those that its answer names; of a replay, whose answer names lines, those that the answers to its booked requests name.
use Rattle.std.specs.Prelude.{List, [], ◌∷◌, ℤ, pos, ◌+ℤ◌}
use Rattle.rules.specs.Tables.{Tables}
use Rattle.rules.specs.Sequence.{Done, until_refused}
use Rattle.rules.specs.Reader.{reading_of}
use Rattle.rules.specs.Call.{Call, one, trades, replay, reportable, handle_call}
use Rattle.soundness.specs.RowsAnswered.{rows_answered}

unfoldable pub rows_of_all : List Done → ℤ
rows_of_all [] = pos 0
rows_of_all (d ∷ rest) = rows_answered d.reply +ℤ rows_of_all rest

unfoldable pub rows_booked : Tables → Call → ℤ
rows_booked t (one r) = rows_answered (handle_call t (one r)).reply
rows_booked t (trades figures cells) = rows_answered (handle_call t (trades figures cells)).reply
rows_booked t (replay text) = rows_of_all (until_refused t (reading_of text).requests).done
rows_booked t (reportable cells) = rows_answered (handle_call t (reportable cells)).reply
