-- Demand 3 speaks of the accepted requests of a history with their answers, and of another order of them in which touching requests keep their order.
use Rattle.std.specs.Prelude.{ℕ, ◌<◌, ◌≡◌, Bool, true, false, cond, not, ◌&&◌, List, [], ◌∷◌, ◌++◌, map, ℤ, length, take}
use Rattle.std.proofs.Math.Option.{some}
use Rattle.std.proofs.Math.ListN.{get_elem?}
use Rattle.rules.specs.Keyed.{is_some}
use Rattle.rules.specs.Request.{Request}
use Rattle.rules.specs.Tables.{Tables}
use Rattle.rules.specs.Handle.{refusal_of}
use Rattle.rules.specs.Sequence.{Done, until_refused}
use Rattle.rules.specs.Batch.{trades_of, batch_refusal}
use Rattle.rules.specs.Reader.{reading_of}
use Rattle.rules.specs.Reportable.{reportable_refusal}
use Rattle.rules.specs.Call.{Call, one, trades, replay, reportable, handle_call}
use Rattle.rules.specs.Touching.{calls_touch}
use Rattle.rules.specs.Run.{run}
use Rattle.rules.specs.declared.Reply.{Reply}

-- "A request is accepted when no refusal number applies to it."
unfoldable pub is_accepted : Tables → Request → Bool
is_accepted t r = not (is_some (refusal_of t r))

-- "a batch is accepted only when all its trades are": it is not refused itself, and no trade stops it. "For demand 3 a replay is the requests it books" (K5): those stand in the list, and never
-- the replay itself. The reporting list (K8) is accepted where none of its refusals applies.
unfoldable pub call_accepted : Tables → Call → Bool
call_accepted t (one r) = is_accepted t r
call_accepted t (trades figures cells) = not (is_some (batch_refusal t figures cells)) && not (is_some (until_refused t (trades_of figures)).stop)
call_accepted t (replay text) = false
call_accepted t (reportable cells) = not (is_some (reportable_refusal t cells))

-- An accepted call with its whole answer: the reply, and what is written to a lent output.
pub record Entry : Type 0 where
  pub call : Call
  pub reply : Reply
  pub output : List ℤ

abbrev pub calls_of : List Entry → List Call
calls_of entries = map (λ (e : Entry). e.call) entries

-- A call as it is answered on these tables.
abbrev pub entry_of : Tables → Call → Entry
entry_of t c = record { call = c; reply = (handle_call t c).reply; output = (handle_call t c).output }

-- A request that was handed in as a part of a call, with its own answer.
abbrev pub as_entry : Done → Entry
as_entry d = record { call = one d.request; reply = d.reply; output = [] }

-- What a call that is not accepted as a whole has booked: "a stopped one stands in the list as the trades it booked"; "a replay is the requests it books".
unfoldable pub booked_by : Tables → Call → List Entry
booked_by t (one r) = []
booked_by t (trades figures cells) = cond (is_some (batch_refusal t figures cells)) [] (map as_entry (until_refused t (trades_of figures)).done)
booked_by t (replay text) = map as_entry (until_refused t (reading_of text).requests).done
booked_by t (reportable cells) = []

-- How a call stands in the list of the accepted ones: as itself, or as what it booked.
unfoldable pub entries_of : Tables → Call → List Entry
entries_of t c = cond (call_accepted t c) (entry_of t c ∷ []) (booked_by t c)

-- The calls made one after the other from these tables: what is accepted, in order. "A refused request may stand anywhere in the first list."
unfoldable pub accepted_entries : Tables → List Call → List Entry
accepted_entries t [] = []
accepted_entries t (c ∷ rest) = entries_of t c ++ accepted_entries (handle_call t c).tables rest

unfoldable pub entries_touch : Entry → Entry → Bool
entries_touch a b = calls_touch a.call b.call

-- The new list has each item of the old one exactly once, and two items that touch keep their order. Items are told apart by their places, so that equal ones may recur:
-- `from j` is the place in the old list of the new list's item j.
pub record Reordering {Item : Type 0} (touches : Item → Item → Bool) (old new : List Item) : Type 0 where
  pub size : length new ≡ length old
  pub from : ℕ → ℕ
  pub within : (j : ℕ) → j < length new → from j < length old
  pub once : (i j : ℕ) → i < length new → j < length new → from i ≡ from j → i ≡ j
  pub same : (j : ℕ) → j < length new → get_elem? new j ≡ get_elem? old (from j)
  pub kept : (i j : ℕ) (x y : Item) → i < j → get_elem? new i ≡ some x → get_elem? new j ≡ some y → touches x y ≡ true → from i < from j

-- ---- "are accepted again with the same answers and end in the same cells"

-- The call of an entry is accepted on these tables, and its reply and what it writes to a lent output are the entry's.
pub record AcceptedAs (t : Tables) (e : Entry) : Type 0 where
  pub accepted : call_accepted t e.call ≡ true
  pub reply : (handle_call t e.call).reply ≡ e.reply
  pub output : (handle_call t e.call).output ≡ e.output

-- The tables that the calls before a place leave.
abbrev pub tables_before : Tables → List Entry → ℕ → Tables
tables_before t entries place = (run t (calls_of (take place entries))).tables

-- Handed in one after the other from these tables, the call at each place is accepted with its entry's answer, and all of them end in these cells.
pub record AcceptedAgain (t : Tables) (entries : List Entry) (end : Tables) : Type 0 where
  pub each : (place : ℕ) (e : Entry) → get_elem? entries place ≡ some e → AcceptedAs (tables_before t entries place) e
  pub same-cells : (run t (calls_of entries)).tables ≡ end
