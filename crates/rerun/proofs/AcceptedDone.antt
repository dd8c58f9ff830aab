-- The accepted requests of a history, a batch as its trades, are done one after the other from the first tables to the last. By the parts of each accepted call. Assumes nothing.
use mathlib.Core.Path.{◌≡◌, refl, ◌∙◌, ap₂}
use mathlib.Core.List.{List, [], ◌∷◌, ◌++◌, flat_map, map-append}
use Rattle.rules.specs.Request.{Request}
use Rattle.rules.specs.Tables.{Tables}
use Rattle.rules.specs.Sequence.{Done}
use Rattle.rules.specs.Call.{Call}
use Rattle.rules.specs.Run.{run}
use Rattle.history.specs.History.{Entry, accepted_entries}
use Rattle.rerun.specs.Journal.{requests_in}
use Rattle.history.proofs.Replay.{Replays, replays-then}
use Rattle.history.proofs.Sequences.{DoesOne, next_one, DoneFrom, requests_done}
use Rattle.history.proofs.Parts.{Does, next, InParts, in_parts, made-requests}
use Rattle.history.proofs.Demand3.{history-replays}

-- Requests done, and of which list.
pub record DoneThese (t : Tables) (requests : List Request) (end : Tables) : Type 0 where
  pub done : List Done
  pub from : DoneFrom t done end
  pub these : requests_done done ≡ requests

entries-done : (entries : List Entry) (t end : Tables) → Replays Does next t entries end → DoneThese t (requests_in entries) end
unfolding requests_in flat_map
entries-done [] t end h = record { done = []; from = h; these = refl }
entries-done (e ∷ rest) t end h =
    let first : InParts t e (next t e) = in_parts t e h.0 in
    let later : DoneThese (next t e) (requests_in rest) end = entries-done rest (next t e) end h.1 in
    record {
      done = first.done ++ later.done;
      from = replays-then DoesOne next_one first.done later.done t (next t e) end first.from later.from;
      these = map-append _ first.done later.done ∙ ap₂ (λ (l m : List Request). l ++ m) (made-requests _ _ _ _ first.made) later.these;
    }

pub accepted-done : (t : Tables) (calls : List Call) → DoneThese t (requests_in (accepted_entries t calls)) (run t calls).tables
accepted-done t calls = entries-done (accepted_entries t calls) t (run t calls).tables (history-replays t calls)
