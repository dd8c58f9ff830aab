-- The reader of a journal (document 02, K5): it "accepts exactly the lines so written of requests that pass test 3". `take_request` takes such a line off the front of a text;
-- what it takes is what `line_of` writes, and what that writes is taken, for every text (crate `lines`, proofs/Exactly).
use Rattle.std.specs.Prelude.{ℕ, zero, suc, Bool, true, false, cond, ◌&&◌, List, [], ◌∷◌, eqb, leb, ℤ, pos, length, get_or, drop}
use Rattle.std.proofs.Math.Option.{Option, none, some}
use Rattle.text.specs.Fields.{tab, newline}
use Rattle.text.specs.Scan.{Taken, taken, first, take_fields}
use Rattle.rules.specs.Request.{Request, trade, separate, transfer, merge, give_up, new_day}
use Rattle.rules.specs.Line.{passes_test3}
use Rattle.rules.specs.declared.Step.{Step}
use Rattle.rules.specs.declared.Step.TheVariants.{Open, Claim, Cancel, Refuse, ApproveGiver, ApproveTaker}
use Rattle.rules.specs.declared.Heading.{Heading}
use Rattle.rules.specs.declared.Heading.TheVariants.{Trade, Separation, Transfer, Merge, GiveUp, Day}

-- A line taken apart: its heading, and its figures.
pub record Line : Type 0 where
  pub heading : Heading
  pub figures : List ℤ

-- ---- the heading

unfoldable pub step_of_letter : ℕ → Option Step
step_of_letter b =
    cond (eqb b 79) (some Open)
    (cond (eqb b 67) (some Claim)
    (cond (eqb b 88) (some Cancel)
    (cond (eqb b 82) (some Refuse)
    (cond (eqb b 71) (some ApproveGiver)
    (cond (eqb b 84) (some ApproveTaker) none)))))

unfoldable pub step_heading : Option Step → List ℕ → Option (Taken Heading)
step_heading none rest = none
step_heading (some step) rest = some (taken (GiveUp step) rest)

-- After the letter G: a tab and the step's letter.
unfoldable pub take_step : List ℕ → Option (Taken Heading)
take_step text = cond (eqb (first text) tab) (step_heading (step_of_letter (first (drop 1 text))) (drop 2 text)) none

unfoldable pub take_heading : List ℕ → Option (Taken Heading)
take_heading text =
    cond (eqb (first text) 84) (some (taken Trade (drop 1 text)))
    (cond (eqb (first text) 83) (some (taken Separation (drop 1 text)))
    (cond (eqb (first text) 65) (some (taken Transfer (drop 1 text)))
    (cond (eqb (first text) 77) (some (taken Merge (drop 1 text)))
    (cond (eqb (first text) 71) (take_step (drop 1 text))
    (cond (eqb (first text) 68) (some (taken Day (drop 1 text))) none)))))

-- ---- heading, figures and newline

-- No line of a request that passes test 3 has more figures: a merge names an id, account and series and 1,000 pairs.
abbrev pub most_figures : ℕ
most_figures = 2003

unfoldable pub end_of_line : Heading → Taken (List ℤ) → Option (Taken Line)
end_of_line heading figures = cond (eqb (first figures.rest) newline) (some (taken (record { heading = heading; figures = figures.value }) (drop 1 figures.rest))) none

unfoldable pub figures_after : Option (Taken Heading) → Option (Taken Line)
figures_after none = none
figures_after (some h) = end_of_line h.value (take_fields most_figures h.rest)

unfoldable pub take_line : List ℕ → Option (Taken Line)
take_line text = figures_after (take_heading text)

-- ---- the request of a line

abbrev pub figure_at : List ℤ → ℕ → ℤ
figure_at figures at = get_or figures at (pos 0)

-- "T id account series side quantity price; S id suffix account series then parts; A id suffix from to series; M id account series then pairs"; a step's line has six after its letter, "D day" one.
unfoldable pub has_its_figures : Heading → ℕ → Bool
has_its_figures Trade count = eqb count 6
has_its_figures Separation count = leb 4 count
has_its_figures Transfer count = eqb count 5
has_its_figures Merge count = leb 3 count
has_its_figures (GiveUp step) count = eqb count 6
has_its_figures Day count = eqb count 1

-- The request that these figures name in such a line.
unfoldable pub request_named : Heading → List ℤ → Request
request_named Trade f = trade (figure_at f 0) (figure_at f 1) (figure_at f 2) (figure_at f 3) (figure_at f 4) (figure_at f 5)
request_named Separation f = separate (figure_at f 0) (figure_at f 1) (figure_at f 2) (figure_at f 3) (drop 4 f)
request_named Transfer f = transfer (figure_at f 0) (figure_at f 1) (figure_at f 2) (figure_at f 3) (figure_at f 4)
request_named Merge f = merge (figure_at f 0) (figure_at f 1) (figure_at f 2) (drop 3 f)
request_named (GiveUp step) f = give_up step (figure_at f 0) (figure_at f 1) (figure_at f 2) (figure_at f 3) (figure_at f 4) (figure_at f 5)
request_named Day f = new_day (figure_at f 0)

-- "of requests that pass test 3"
unfoldable pub is_valid_line : Heading → List ℤ → Bool
is_valid_line heading figures = has_its_figures heading (length figures) && passes_test3 (request_named heading figures)

unfoldable pub request_from : Option (Taken Line) → Option (Taken Request)
request_from none = none
request_from (some t) =
    cond (is_valid_line t.value.heading t.value.figures) (some (taken (request_named t.value.heading t.value.figures) t.rest)) none

unfoldable pub take_request : List ℕ → Option (Taken Request)
take_request text = request_from (take_line text)

-- A line that stands alone.
unfoldable pub alone : Option (Taken Request) → Option Request
alone none = none
alone (some t) = cond (eqb (length t.rest) 0) (some t.value) none

unfoldable pub request_of : List ℕ → Option Request
request_of line = alone (take_request line)

-- ---- the requests of a text

-- The requests of its lines up to the first that is bad, and whether there is none such.
pub record Reading : Type 0 where
  pub requests : List Request
  pub whole : Bool

unfoldable pub line_then : Option (Taken Request) → (List ℕ → Reading) → Reading
line_then none onward = record { requests = []; whole = false }
line_then (some t) onward = record { requests = t.value ∷ (onward t.rest).requests; whole = (onward t.rest).whole }

-- In at most so many lines. A line has at least one byte.
unfoldable pub read_within : ℕ → List ℕ → Reading
read_within zero text = record { requests = []; whole = eqb (length text) 0 }
read_within (suc lines) text = cond (eqb (length text) 0) (record { requests = []; whole = true }) (line_then (take_request text) (λ rest. read_within lines rest))

unfoldable pub reading_of : List ℕ → Reading
reading_of text = read_within (length text) text
