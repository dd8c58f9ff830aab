-- The line of a request in a journal (document 02, K5), as it is written: "fields parted by tabs, ended by a newline".
use Rattle.std.specs.Prelude.{ℕ, Bool, true, false, ◌&&◌, List, [], ◌∷◌, ◌++◌, ℤ}
use Rattle.text.specs.Fields.{tab, newline, fields_text}
use Rattle.rules.specs.Figures.{valid_id, valid_suffix, valid_day}
use Rattle.rules.specs.Request.{Request, trade, separate, transfer, merge, lineage, give_up, new_day}
use Rattle.rules.specs.Trade.{trade_figures}
use Rattle.rules.specs.Separation.{separation_figures}
use Rattle.rules.specs.Transfer.{transfer_figures}
use Rattle.rules.specs.Merge.{merge_figures}
use Rattle.rules.specs.GiveUp.{give_up_figures}
use Rattle.rules.specs.declared.Step.{Step}
use Rattle.rules.specs.declared.Step.TheVariants.{Open, Claim, Cancel, Refuse, ApproveGiver, ApproveTaker}
use Rattle.rules.specs.declared.Heading.{Heading}
use Rattle.rules.specs.declared.Heading.TheVariants.{Trade, Separation, Transfer, Merge, GiveUp, Day}

-- "step O open, C claim, X cancel, R refuse, G giver's, T taker's approval"
abbrev pub step_letter : Step → ℕ
step_letter Open = 79
step_letter Claim = 67
step_letter Cancel = 88
step_letter Refuse = 82
step_letter ApproveGiver = 71
step_letter ApproveTaker = 84

-- The letters T, S, A, M, D; and G with the step.
abbrev pub heading_text : Heading → List ℕ
heading_text Trade = 84 ∷ []
heading_text Separation = 83 ∷ []
heading_text Transfer = 65 ∷ []
heading_text Merge = 77 ∷ []
heading_text (GiveUp step) = 71 ∷ tab ∷ step_letter step ∷ []
heading_text Day = 68 ∷ []

unfoldable pub line_text : Heading → List ℤ → List ℕ
line_text heading figures = heading_text heading ++ (fields_text figures ++ (newline ∷ []))

-- "T id account series side quantity price; S id suffix account series then parts; A id suffix from to series; M id account series then pairs";
-- "Give-up steps are G step process id suffix giving taking series"; K8: "Journals gain a line D day". A lineage changes no table and has no line.
unfoldable pub line_of : Request → List ℕ
line_of (trade id account series side quantity price) = line_text Trade (id ∷ account ∷ series ∷ side ∷ quantity ∷ price ∷ [])
line_of (separate id suffix account series parts) = line_text Separation (id ∷ suffix ∷ account ∷ series ∷ parts)
line_of (transfer id suffix from to series) = line_text Transfer (id ∷ suffix ∷ from ∷ to ∷ series ∷ [])
line_of (merge id account series pairs) = line_text Merge (id ∷ account ∷ series ∷ pairs)
line_of (lineage id suffix) = []
line_of (give_up step process id suffix giving taking series) = line_text (GiveUp step) (process ∷ id ∷ suffix ∷ giving ∷ taking ∷ series ∷ [])
line_of (new_day day) = line_text Day (day ∷ [])

-- "each accepted request that changes a table": a lineage changes none.
unfoldable pub is_journalled : Request → Bool
is_journalled (trade id account series side quantity price) = true
is_journalled (separate id suffix account series parts) = true
is_journalled (transfer id suffix from to series) = true
is_journalled (merge id account series pairs) = true
is_journalled (lineage id suffix) = false
is_journalled (give_up step process id suffix giving taking series) = true
is_journalled (new_day day) = true

-- Test 3 of each kind of request; of a day "its range alone is test 3 there", in a journal.
unfoldable pub passes_test3 : Request → Bool
passes_test3 (trade id account series side quantity price) = trade_figures id account series side quantity price
passes_test3 (separate id suffix account series parts) = separation_figures id suffix account series parts
passes_test3 (transfer id suffix from to series) = transfer_figures id suffix from to series
passes_test3 (merge id account series pairs) = merge_figures id account series pairs
passes_test3 (lineage id suffix) = valid_id id && valid_suffix suffix
passes_test3 (give_up step process id suffix giving taking series) = give_up_figures process id suffix giving taking series
passes_test3 (new_day day) = valid_day day
