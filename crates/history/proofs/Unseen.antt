-- Rows put under the keys of one request are not seen by a request that is apart from it: the views before and after agree where the other looks, and as many of its
-- position rows are absent. Rows of two requests that are apart may be put in either order. Assumes nothing.
use Prim.Native.Nat.{ℕ, ◌+◌}
use mathlib.Core.Path.{◌≡◌, refl, sym, ◌∙◌, ap, subst}
use mathlib.Core.Bool.{false, cond, not}
use mathlib.Core.List.{List, [], ◌++◌}
use mathlib.Core.Option.{Option, none, some}
use lib.IntN.{ℤ}
use Rattle.integers.specs.Order.{eq_z}
use Rattle.rules.specs.Keyed.{Key, same, is_some, find, greatest, absent_from}
use Rattle.rules.specs.Rows.{key_of, record_key, position_key, or_zeros}
use Rattle.rules.specs.ProcessRows.{process_key}
use Rattle.rules.specs.Request.{Request}
use Rattle.rules.specs.Books.{Books, view_of}
use Rattle.rules.specs.Plan.{Effects, put_process, booked}
use Rattle.rules.specs.Merge.{is_among}
use Rattle.rules.specs.Touching.{ids_of, positions_of, is_named_in}
use Rattle.rules.specs.declared.Position.{Position}
use Rattle.rules.specs.declared.ProcessRow.{ProcessRow}
use Rattle.keys.proofs.Split.{clash, is_false}
use Rattle.keys.proofs.Equal.{eq_z-true}
use Rattle.keys.proofs.KeyOrder.{same-eq}
use Rattle.keys.proofs.Clauses.{absent_from-nil, absent_from-cons}
use Rattle.keys.proofs.Lookup.{find-upsert-other, greatest-upsert-other}
use Rattle.keys.proofs.Commute.{upsert-commute}
use Rattle.keys.proofs.Folds.{only-weaken, find-upsert_all-other, greatest-upsert_all-other, upsert_all-commute}
use Rattle.keys.proofs.Counts.{absent_from-upsert_all}
use Rattle.soundness.proofs.Growth.{absent_process}
use Rattle.history.proofs.Named.{Apart}
use Rattle.history.proofs.Locality.{Agree}
use Rattle.history.proofs.OwnKeys.{OwnProcess, OwnKeys}

-- A process row with a process id among these is not seen under another, and may be put before or after a row of another.
find-process-other : (ids : List ℤ) (o : Option ProcessRow) (rows : List ProcessRow) → OwnProcess ids o → (process id : ℤ) → is_named_in process ids ≡ false →
    find process_key (key_of process id) (put_process o rows) ≡ find process_key (key_of process id) rows
unfolding put_process
find-process-other ids none rows own process id h = refl
find-process-other ids (some p) rows own process id h =
    find-upsert-other process_key (key_of process id) p rows
    (is_false (same (process_key p) (key_of process id)) (λ t. clash own (subst (λ (k : Key). is_named_in k.major ids ≡ false) (sym (same-eq (process_key p) (key_of process id) t)) h)))

greatest-process-other : (ids : List ℤ) (o : Option ProcessRow) (rows : List ProcessRow) → OwnProcess ids o → (process : ℤ) → is_named_in process ids ≡ false →
    greatest process_key process (put_process o rows) ≡ greatest process_key process rows
unfolding put_process
greatest-process-other ids none rows own process h = refl
greatest-process-other ids (some p) rows own process h =
    greatest-upsert-other process_key process p rows
    (is_false (eq_z p.process process) (λ t. clash own (subst (λ (x : ℤ). is_named_in x ids ≡ false) (sym (eq_z-true p.process process t)) h)))

absent-process : (ids : List ℤ) (o p : Option ProcessRow) (rows : List ProcessRow) → OwnProcess ids o → ((q : ProcessRow) → p ≡ some q → is_named_in q.process ids ≡ false) →
    absent_process (put_process o rows) p ≡ absent_process rows p
absent-process ids o none rows own h = refl
absent-process ids o (some q) rows own h =
    absent_from-cons process_key (put_process o rows) q []
    ∙ ap (λ (x : Option ProcessRow). cond (is_some x) 0 1 + absent_from process_key (put_process o rows) []) (find-process-other ids o rows own q.process q.id (h q refl))
    ∙ ap (λ (n : ℕ). cond (is_some (find process_key (process_key q) rows)) 0 1 + n) (absent_from-nil process_key (put_process o rows) ∙ sym (absent_from-nil process_key rows))
    ∙ sym (absent_from-cons process_key rows q [])

processes-commute : (ids : List ℤ) (o p : Option ProcessRow) (rows : List ProcessRow) → OwnProcess ids o → ((q : ProcessRow) → p ≡ some q → is_named_in q.process ids ≡ false) →
    put_process o (put_process p rows) ≡ put_process p (put_process o rows)
unfolding put_process
processes-commute ids none p rows own h = refl
processes-commute ids (some a) none rows own h = refl
processes-commute ids (some a) (some q) rows own h =
    upsert-commute process_key a q rows
    (is_false (same (process_key a) (process_key q)) (λ t. clash own (subst (λ (k : Key). is_named_in k.major ids ≡ false) (sym (same-eq (process_key a) (process_key q) t)) (h q refl))))

-- What one request puts under its own process id, the other does not name.
named-elsewhere : (a r : Request) → Apart r a → (o : Option ProcessRow) → OwnProcess (ids_of r) o → (q : ProcessRow) → o ≡ some q → is_named_in q.process (ids_of a) ≡ false
named-elsewhere a r apart o own q e = apart.ids q.process (subst (λ (x : Option ProcessRow). OwnProcess (ids_of r) x) e own)

-- `r` looks; `a` has put its effects `e`.
module _ (b : Books) (a r : Request) (apart : Apart r a) (e : Effects) (own : OwnKeys a e) where
  pub agree_after : Agree (view_of b) (view_of (booked e b)) r
  unfolding view_of booked
  agree_after = record {
    at-ids = record {
      record-at = λ id n suffix.
          sym (find-upsert_all-other record_key (λ (k : Key). is_named_in k.major (ids_of a)) (key_of id suffix) (e.changed ++ e.added) b.records own.records (apart.ids id n));
      greatest-at = λ id n.
          sym (greatest-upsert_all-other record_key (λ (k : Key). is_named_in k.major (ids_of a)) id (e.changed ++ e.added) b.records own.records
          (λ k m. is_false (eq_z k.major id) (λ t. clash m (subst (λ (x : ℤ). is_named_in x (ids_of a) ≡ false) (sym (eq_z-true k.major id t)) (apart.ids id n)))));
    };
    at-positions = λ account series n.
        ap (λ (o : Option Position). or_zeros account series o)
        (sym (find-upsert_all-other position_key (λ (k : Key). is_among k (positions_of a)) (key_of account series) e.positions b.positions own.positions (apart.positions (key_of account series) n)));
    at-processes = λ process n id. sym (find-process-other (ids_of a) e.process b.processes own.process process id (apart.ids process n));
    transaction-of = λ process n. sym (greatest-process-other (ids_of a) e.process b.processes own.process process (apart.ids process n));
    day = refl;
  }

  module _ (f : Effects) (also : OwnKeys r f) where
    pub absent-after : absent_from position_key (booked e b).positions f.positions ≡ absent_from position_key b.positions f.positions
    unfolding booked
    absent-after =
        absent_from-upsert_all position_key (λ (k : Key). is_among k (positions_of a)) e.positions f.positions b.positions own.positions
        (only-weaken position_key (λ (k : Key). is_among k (positions_of r)) (λ (k : Key). not (is_among k (positions_of a))) f.positions (λ k n. ap not (apart.positions k n)) also.positions)

    pub absent-process-after : absent_process (booked e b).processes f.process ≡ absent_process b.processes f.process
    unfolding booked
    absent-process-after = absent-process (ids_of a) e.process f.process b.processes own.process (named-elsewhere a r apart f.process also.process)

    pub either_order : booked e (booked f b) ≡ booked f (booked e b)
    unfolding booked
    either_order = λ i. record {
      records = sym (upsert_all-commute record_key (λ (k : Key). is_named_in k.major (ids_of r)) (λ (k : Key). is_named_in k.major (ids_of a))
          (f.changed ++ f.added) (e.changed ++ e.added) b.records also.records own.records (λ k n. apart.ids k.major n)) i;
      positions = sym (upsert_all-commute position_key (λ (k : Key). is_among k (positions_of r)) (λ (k : Key). is_among k (positions_of a))
          f.positions e.positions b.positions also.positions own.positions (λ k n. apart.positions k n)) i;
      processes = processes-commute (ids_of a) e.process f.process b.processes own.process (named-elsewhere a r apart f.process also.process) i;
      records_room = b.records_room;
      positions_room = b.positions_room;
      processes_room = b.processes_room;
      day = b.day;
    }
