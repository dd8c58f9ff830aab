-- The exchange, on rows: of two neighbouring accepted requests that don't touch, the second is accepted first with the same plan, the first after it with the same plan,
-- and the books at the end are the same. Room is the delicate point: what the two add together is the same in either order, and tables never shrink.
-- Assumes nothing.
use Prim.Native.Nat.{◌+◌, ◌≤◌}
use mathlib.Core.Path.{◌≡◌, refl, sym, ◌∙◌, ap, subst}
use mathlib.Core.Bool.{false}
use mathlib.Core.List.{List, [], ◌++◌}
use mathlib.Core.Option.{none}
use lib.IntN.{pos}
use lib.ListN.{length}
use native.Mathlib.Omega.{arith}
use Rattle.rules.specs.Keyed.{absent_from, upsert_all}
use Rattle.rules.specs.Rows.{record_key, position_key}
use Rattle.rules.specs.Refusal.{first_refusal}
use Rattle.rules.specs.Request.{Request}
use Rattle.rules.specs.Books.{Books, view_of}
use Rattle.rules.specs.Plan.{Plan, booking, question, day_move, Effects, booked, plan_tests, plan_books}
use Rattle.rules.specs.Touching.{touch}
use Rattle.soundness.specs.SoundBooks.{SoundBooks, plan_on, Accepts, after}
use Rattle.rules.specs.declared.Record.{Record}
use Rattle.rules.specs.declared.Position.{Position}
use Rattle.rules.specs.declared.Reply.{Reply}
use Rattle.rules.specs.declared.Reply.TheVariants.{Booked}
use Rattle.soundness.proofs.Kept.{kept}
use Rattle.soundness.proofs.Growth.{records-grow, positions-grow, absent_process, processes-grow}
use Rattle.keys.proofs.Clauses.{upsert_all-nil, absent_from-nil}
use Rattle.keys.proofs.Folds.{upsert_all-longer}
use Rattle.history.proofs.Named.{Apart, untouched-apart, apart-turned}
use Rattle.history.proofs.Locality.{local}
use Rattle.history.proofs.Effects.{effects_of, LeavesDay, leaves-day, books-effects}
use Rattle.history.proofs.OwnKeys.{OwnKeys, view-true, own_keys}
use Rattle.history.proofs.Unseen.{agree_after, absent-after, absent-process-after, either_order}
use Rattle.history.proofs.Room.{Room, own-pass, has_room, accepted-with-room}

-- What is to be shown of two neighbours x, y on these books.
pub record Exchanged (b : Books) (x y : Request) : Type 0 where
  pub plan-of-second : plan_on (after b x) y ≡ plan_on b y
  pub second-accepted : Accepts b y
  pub plan-of-first : plan_on (after b y) x ≡ plan_on b x
  pub first-accepted : Accepts (after b y) x
  pub same_end : after (after b y) x ≡ after (after b x) y

-- What an accepted request adds, whatever its plan: a question and a new day add none.
record Grows (b : Books) (e : Effects) : Type 0 where
  records : length (booked e b).records ≡ length b.records + length e.added
  positions : length (booked e b).positions ≡ length b.positions + absent_from position_key b.positions e.positions
  processes : length (booked e b).processes ≡ length b.processes + absent_process b.processes e.process

-- Effects without rows.
grows-by-none : (b : Books) → SoundBooks b → (reply : Reply) → Grows b (record { changed = []; added = []; positions = []; process = none; reply = reply })
unfolding booked
grows-by-none b sound reply =
    let none-added : length (upsert_all record_key [] b.records) ≡ length b.records = ap (λ (l : List Record). length l) (upsert_all-nil record_key b.records) in
    let none-moved : length (upsert_all position_key [] b.positions) ≡ length b.positions = ap (λ (l : List Position). length l) (upsert_all-nil position_key b.positions) in
    record {
      records = omega arith;
      positions = omega (arith, absent_from-nil position_key b.positions);
      processes = processes-grow b sound (record { changed = []; added = []; positions = []; process = none; reply = reply });
    }

grows : (b : Books) → SoundBooks b → (r : Request) → Accepts b r → Grows b (effects_of (plan_on b r))
grows b sound r ok = go (plan_on b r) refl
  where
    go : (p : Plan) → plan_on b r ≡ p → Grows b (effects_of p)
    go (booking tests e) q = record { records = records-grow b sound r ok tests e q; positions = positions-grow b sound r ok tests e q; processes = processes-grow b sound e }
    go (question tests reply) q = grows-by-none b sound reply
    go (day_move tests day) q = grows-by-none b sound (Booked (pos 0) (pos 0))

-- What the second adds to the books, then the first to those, is what the first adds, then the second.
room-either-way : (b : Books) (e f : Effects) → Grows b e → Grows b f →
    absent_from position_key (booked e b).positions f.positions ≡ absent_from position_key b.positions f.positions →
    absent_from position_key (booked f b).positions e.positions ≡ absent_from position_key b.positions e.positions →
    absent_process (booked e b).processes f.process ≡ absent_process b.processes f.process →
    absent_process (booked f b).processes e.process ≡ absent_process b.processes e.process →
    Room (booked e b) f → Room (booked f b) e
unfolding booked
room-either-way b e f ge gf unseen unseen' other other' room = record {
  records = omega (arith, ge.records, gf.records, room.records);
  positions = omega (arith, ge.positions, gf.positions, room.positions);
  processes = omega (arith, ge.processes, gf.processes, room.processes);
}

-- The room that the second found after the first was there before it: tables never shrink.
room-before : (b : Books) (e f : Effects) →
    absent_from position_key (booked e b).positions f.positions ≡ absent_from position_key b.positions f.positions →
    absent_process (booked e b).processes f.process ≡ absent_process b.processes f.process → length b.processes ≤ length (booked e b).processes → Room (booked e b) f → Room b f
unfolding booked
room-before b e f unseen other longer room = record {
  records = omega (arith, room.records, upsert_all-longer record_key (e.changed ++ e.added) b.records);
  positions = omega (arith, room.positions, upsert_all-longer position_key e.positions b.positions);
  processes = omega (arith, room.processes);
}

module _ (b : Books) (sound : SoundBooks b) (x y : Request) (free : touch y x ≡ false) (ok-x : Accepts b x) (ok-y : Accepts (after b x) y) where
  pub exchange : Exchanged b x y
  exchange =
      let p : Plan = plan_on b x in
      let q : Plan = plan_on b y in
      let e : Effects = effects_of p in
      let f : Effects = effects_of q in
      let apart : Apart y x = untouched-apart y x free in
      let turned : Apart x y = apart-turned y x apart in
      let stays-x : LeavesDay p = leaves-day (view_of b) x apart.second-not-all in
      let stays-y : LeavesDay q = leaves-day (view_of b) y apart.first-not-all in
      let after-x : after b x ≡ booked e b = books-effects p stays-x b in
      let after-y : after b y ≡ booked f b = books-effects q stays-y b in
      let own_x : OwnKeys x e = own_keys (view_of b) (view-true b) x (own-pass b p ok-x) in
      let plan-y : q ≡ plan_on (booked e b) y = local (view_of b) (view_of (booked e b)) y (agree_after b x y apart e own_x) in
      let later-y : first_refusal (plan_tests (booked e b) q) ≡ none =
      subst (λ (r : Plan). first_refusal (plan_tests (booked e b) r) ≡ none) (sym plan-y) (subst (λ (c : Books). Accepts c y) after-x ok-y) in
      let own-y : OwnKeys y f = own_keys (view_of b) (view-true b) y (own-pass (booked e b) q later-y) in
      let sound-later : SoundBooks (booked e b) = subst (λ (c : Books). SoundBooks c) after-x (kept b sound x ok-x) in
      let room : Room (booked e b) f = has_room (booked e b) sound-later q later-y in
      let unseen : absent_from position_key (booked e b).positions f.positions ≡ absent_from position_key b.positions f.positions = absent-after b x y apart e own_x f own-y in
      let unseen' : absent_from position_key (booked f b).positions e.positions ≡ absent_from position_key b.positions e.positions = absent-after b y x turned f own-y e own_x in
      let other : absent_process (booked e b).processes f.process ≡ absent_process b.processes f.process = absent-process-after b x y apart e own_x f own-y in
      let other' : absent_process (booked f b).processes e.process ≡ absent_process b.processes e.process = absent-process-after b y x turned f own-y e own_x in
      let longer : length b.processes ≤ length (booked e b).processes = omega (arith, processes-grow b sound e) in
      let first-y : Accepts b y = accepted-with-room (booked e b) b q later-y (room-before b e f unseen other longer room) in
      let plan-x : p ≡ plan_on (booked f b) x = local (view_of b) (view_of (booked f b)) x (agree_after b y x turned f own-y) in
      let later-x : first_refusal (plan_tests (booked f b) p) ≡ none =
      accepted-with-room b (booked f b) p ok-x (room-either-way b e f (grows b sound x ok-x) (grows b sound y first-y) unseen unseen' other other' room) in
      let plan-of-y : plan_on (after b x) y ≡ q = ap (λ (c : Books). plan_on c y) after-x ∙ sym plan-y in
      let plan-of-x : plan_on (after b y) x ≡ p = ap (λ (c : Books). plan_on c x) after-y ∙ sym plan-x in
      record {
        plan-of-second = plan-of-y;
        second-accepted = first-y;
        plan-of-first = plan-of-x;
        first-accepted =
            subst (λ (c : Books). Accepts c x) (sym after-y) (subst (λ (r : Plan). first_refusal (plan_tests (booked f b) r) ≡ none) plan-x later-x);
        same_end =
            ap (λ (r : Plan). plan_books r (after b y)) plan-of-x ∙ books-effects p stays-x (after b y) ∙ ap (λ (c : Books). booked e c) after-y
            ∙ either_order b x y apart e own_x f own-y
            ∙ sym (ap (λ (r : Plan). plan_books r (after b x)) plan-of-y ∙ books-effects q stays-y (after b x) ∙ ap (λ (c : Books). booked f c) after-x);
      }
