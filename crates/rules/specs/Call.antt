-- What a host hands in by one call: a request, a batch of trades (document 02, K1), a text to replay (K5), or the question for the reporting list (K8).
use Rattle.std.specs.Prelude.{ℕ, List, [], ◌∷◌, ℤ}
use Rattle.rules.specs.Request.{Request}
use Rattle.rules.specs.Tables.{Tables}
use Rattle.rules.specs.Handle.{Answer, handle}
use Rattle.rules.specs.Batch.{trades_of, handle_batch}
use Rattle.rules.specs.Reader.{reading_of}
use Rattle.rules.specs.Replay.{handle_replay}
use Rattle.rules.specs.Reportable.{handle_reportable}

-- A batch has its figures, six for each trade, and the number of cells lent for the excesses; the list has the number of cells lent for its pairs.
pub data Call : Type 0 where
  one : Request → Call
  trades : (figures : List ℤ) (cells : ℕ) → Call
  replay : (text : List ℕ) → Call
  reportable : (cells : ℕ) → Call

-- What it does to the lent tables, whatever their cells and its figures.
unfoldable pub handle_call : Tables → Call → Answer
handle_call t (one r) = handle t r
handle_call t (trades figures cells) = handle_batch t figures cells
handle_call t (replay text) = handle_replay t text
handle_call t (reportable cells) = handle_reportable t cells

-- The requests that it is made of; of a text those of its lines up to the first that is bad; the list is made of none.
unfoldable pub requests_of : Call → List Request
requests_of (one r) = r ∷ []
requests_of (trades figures cells) = trades_of figures
requests_of (replay text) = (reading_of text).requests
requests_of (reportable cells) = []
