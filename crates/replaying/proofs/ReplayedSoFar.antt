-- The loop of a replay: what holds before each turn, after a line that is booked, where a line stops it, and at the end of the text. Assumes nothing.
use Prim.Native.Nat.{ℕ, ◌+◌, ◌-◌, ◌*◌, ◌≤◌, ◌<◌}
use native.Mathlib.Omega.{arith}
use mathlib.Core.Path.{◌≡◌, refl, sym, ◌∙◌, ap}
use mathlib.Core.Bool.{true}
use mathlib.Core.List.{List}
use mathlib.Core.Option.{Option, none, some}
use lib.IntN.{ℤ, pos}
use lib.ListN.{length, drop, length-drop}
use Rattle.text.specs.Scan.{taken}
use Rattle.rules.specs.Refusal.{Test}
use Rattle.rules.specs.Tables.{Tables, all_tables, sound_records, sound_positions, sound_processes}
use Rattle.rules.specs.Handle.{answered_by, refusal_of}
use Rattle.rules.specs.Replay.{handle_replay}
use Rattle.rules.specs.declared.Reply.TheVariants as Reply
use Rattle.verdict.specs.Verdict.{verdict_of}
use Rattle.verdict.specs.Verdict as Verdict
use Rattle.replaying.specs.LineReplayed.{LineBooked, LineStops, LineReplayed}
use Rattle.replaying.specs.Became.{Booked, Bad, Refused}
use Rattle.replaying.proofs.AnswerFrom.{answer_from, from_start, at-end, line-bad, line_refused, line-booked}
use Rattle.replaying.proofs.LineLength.{three-fewer}

-- A verdict that refuses is the first refusal's.
refused-by : (o : Option Test) (number place : ℤ) → verdict_of o ≡ Verdict.Refused number place → (x : Test) × (o ≡ some x) × (pos x.number ≡ number) × (pos x.place ≡ place)
unfolding verdict_of
refused-by none number place v = let z : ◌≡◌ {A = ℕ} 0 1 = cc in absurd (omega arith)
refused-by (some x) number place v = (x, refl, cc, cc)

-- So many lines are booked; the answer from here on is the answer to the whole.
pub record ReplayedSoFar (start : Tables) (text : List ℕ) (records positions processes figures : List ℤ) (at line : ℕ) : Type 0 where
  pub answer : answer_from line (all_tables records positions processes) (drop at text) ≡ handle_replay start text
  pub within : at ≤ length text
  pub few : line * 3 ≤ at
  pub records-sound : sound_records records ≡ true
  pub positions-sound : sound_positions positions ≡ sound_positions start.positions
  pub processes-sound : sound_processes processes ≡ sound_processes start.processes
  pub records-size : length records ≡ length start.records
  pub positions-size : length positions ≡ length start.positions
  pub processes-size : length processes ≡ length start.processes
  pub cells : length figures ≡ 2003

pub none-replayed : (records positions processes figures : List ℤ) (text : List ℕ) → sound_records records ≡ true → length figures ≡ 2003 →
    ReplayedSoFar (all_tables records positions processes) text records positions processes figures 0 0
none-replayed records positions processes figures text h cells = record {
  answer = from_start (all_tables records positions processes) text;
  within = omega arith;
  few = omega arith;
  records-sound = h;
  positions-sound = refl;
  processes-sound = refl;
  records-size = refl;
  positions-size = refl;
  processes-size = refl;
  cells = cells;
}

module _ (start : Tables) (text : List ℕ) (records positions processes figures : List ℤ) (at line : ℕ) (b : ReplayedSoFar start text records positions processes figures at line) where
  abbrev now : Tables
  now = all_tables records positions processes

  -- The text is at its end.
  pub all-replayed : length text ≤ at → answered_by (Reply.Replayed (pos line)) now ≡ handle_replay start text
  all-replayed over = sym (at-end line now text at over) ∙ b.answer

  module _ (more : at < length text) (records' positions' processes' : List ℤ) where
    abbrev after : Tables
    after = all_tables records' positions' processes'

    pub stops-bad : LineReplayed now text at Bad after → answered_by (Reply.BadLine (pos (line + 1))) after ≡ handle_replay start text
    stops-bad w =
        let left : 0 < length (drop at text) = omega (arith, length-drop at text) in
        ap (λ (t : Tables). answered_by (Reply.BadLine (pos (line + 1))) t) w.became.1
        ∙ sym (line-bad line now (drop at text) left w.became.0) ∙ b.answer

    pub stops-refused : (number place : ℤ) → LineReplayed now text at (Refused number place) after → answered_by (Reply.LineRefused (pos (line + 1)) number place) after ≡ handle_replay start text
    stops-refused number place w =
        let s : LineStops now text at number place after = w.became in
        let first : (x : Test) × (refusal_of now s.request ≡ some x) × (pos x.number ≡ number) × (pos x.place ≡ place) = refused-by (refusal_of now s.request) number place s.refused in
        (λ k. answered_by (Reply.LineRefused (pos (line + 1)) (sym first.2 k) (sym first.3 k)) (s.same k))
        ∙ sym (line_refused line now (drop at text) s.rest s.request s.read first.0 first.1) ∙ b.answer

    pub one_more : (next : ℕ) (figures' : List ℤ) → LineReplayed now text at (Booked next) after → length records' ≡ length records → length positions' ≡ length positions →
        length processes' ≡ length processes → length figures' ≡ 2003 → ReplayedSoFar start text records' positions' processes' figures' next (line + 1)
    one_more next figures' w same-records same-positions same-processes cells =
        let k : LineBooked now text at next after = w.became in
        let fewer : length (drop next text) + 3 ≤ length (drop at text) = three-fewer (drop at text) (taken k.request (drop next text)) k.read in
        record {
          answer =
              ap (λ (t : Tables). answer_from (line + 1) t (drop next text)) k.tables
              ∙ sym (line-booked line now (drop at text) (drop next text) k.request k.read k.accepted) ∙ b.answer;
          within = k.within;
          few = omega (arith, length-drop next text, length-drop at text, k.within, b.few);
          records-sound = w.records-sound;
          positions-sound = w.positions-sound ∙ b.positions-sound;
          processes-sound = w.processes-sound ∙ b.processes-sound;
          records-size = same-records ∙ b.records-size;
          positions-size = same-positions ∙ b.positions-size;
          processes-size = same-processes ∙ b.processes-size;
          cells = cells;
        }
