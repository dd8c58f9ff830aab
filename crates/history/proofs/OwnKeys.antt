-- Keys only: an accepted request puts rows of no other ids and positions than it names. For each kind of request; a named record has the id that it was asked by, and
-- refusal 5 says that it is there. Assumes nothing.
--
-- What a new kind of request has to bring for demand 3: a clause of `local` (Locality), that its plan is the same in views that agree where it looks; a clause of `own-rows` below;
-- and in the crate soundness that it adds as many rows as tests 14 and 15 counted and leaves sound books sound. All else is proved once, for every plan. A request that touches
-- every other is never exchanged: a new day, which puts no row, has these clauses at once, and is left out where the current day must stay (`LeavesDay`, Effects).
use mathlib.Core.Path.{◌≡◌, refl, sym, ◌∙◌, ap, subst}
use mathlib.Core.Bool.{Bool, true, false, cond, not}
use mathlib.Core.List.{List, [], ◌∷◌, ◌++◌, map}
use mathlib.Core.Option.{Option, none, some}
use lib.IntN.{ℤ, pos, ◌+ℤ◌}
use borrow.Author.Tests.{not-false}
use Rattle.rules.specs.Keyed.{Key, is_some, find}
use Rattle.rules.specs.Rows.{key_of, record_key, position_key, or_zeros, zero_position, moved, adjusted_record, inverse_record, adjustable_record, new_record}
use Rattle.rules.specs.NamedRecord.{the_record, next_suffix}
use Rattle.rules.specs.Refusal.{first_refusal, any_of}
use Rattle.rules.specs.Request.{Request, trade, separate, transfer, merge, lineage, give_up, new_day}
use Rattle.rules.specs.Books.{Books, View, view_of}
use Rattle.rules.specs.Plan.{Effects}
use Rattle.rules.specs.Trade.{trade_plan}
use Rattle.rules.specs.Separation.{separation_plan, part_records}
use Rattle.rules.specs.Figures.{give_up_kind, take_up_kind}
use Rattle.rules.specs.ProcessRows.{process_key, opened_process, the_process}
use Rattle.rules.specs.Transfer.{transfer_effects, transfer_plan}
use Rattle.rules.specs.GiveUp.{may_step, is_out_of_turn, stepped, is_complete, record_after, step_effects, give_up_effects, process_before, give_up_plan}
use Rattle.rules.specs.Merge.{Source, merge_plan, sources_of, pairs_of, is_among, is_missing, records_of, merge_inverses, merged_record}
use Rattle.rules.specs.Lineage.{lineage_plan}
use Rattle.rules.specs.Day.{day_plan}
use Rattle.rules.specs.Touching.{ids_of, positions_of, is_named_in}
use Rattle.rules.specs.Handle.{plan_of}
use Rattle.rules.specs.declared.Record.{Record}
use Rattle.rules.specs.declared.Position.{Position}
use Rattle.rules.specs.declared.ProcessRow.{ProcessRow}
use Rattle.rules.specs.declared.Step.{Step}
use Rattle.rules.specs.declared.Step.TheVariants.{Open, Claim, Cancel, Refuse, ApproveGiver, ApproveTaker}
use Rattle.keys.proofs.Split.{clash}
use Rattle.keys.proofs.Clauses.{all_of-nil}
use Rattle.keys.proofs.Lookup.{find-key}
use Rattle.keys.proofs.Counts.{is_some-present}
use Rattle.keys.proofs.Folds.{Only, only-intro}
use Rattle.soundness.proofs.Accepted.{any_of-head, any_of-tail}
use Rattle.soundness.proofs.GiveUp.{stepped-key}
use Rattle.history.proofs.Named.{named_here, named-later, among-here, among_later}
use Rattle.history.proofs.Refusals.{test-passes, rest-passes, each-passes}
use Rattle.history.proofs.Effects.{effects_of, own_tests}

-- What is seen under a key has that key.
pub record TrueToKeys (v : View) : Type 0 where
  pub record-id : (id suffix : ℤ) (x : Record) → v.record_at id suffix ≡ some x → x.id ≡ id
  pub position-key : (account series : ℤ) → position_key (v.position_at account series) ≡ key_of account series
  pub process-key : (process id : ℤ) (x : ProcessRow) → v.process_at process id ≡ some x → process_key x ≡ key_of process id

zeros-key : (account series : ℤ) (o : Option Position) → ((p : Position) → o ≡ some p → position_key p ≡ key_of account series) →
    position_key (or_zeros account series o) ≡ key_of account series
unfolding or_zeros zero_position
zeros-key account series none h = refl
zeros-key account series (some p) h = h p refl

pub view-true : (b : Books) → TrueToKeys (view_of b)
unfolding view_of
view-true b = record {
  record-id = λ id suffix x h. ap (λ (k : Key). k.major) (find-key record_key (key_of id suffix) b.records x h);
  position-key = λ account series.
      zeros-key account series (find position_key (key_of account series) b.positions) (λ p h. find-key position_key (key_of account series) b.positions p h);
  process-key = λ process id x h. find-key process_key (key_of process id) b.processes x h;
}

-- The process row, where there is one, has a process id that is among these.
abbrev pub OwnProcess : List ℤ → Option ProcessRow → Type 0
OwnProcess ids none = Unit {0}
OwnProcess ids (some p) = is_named_in p.process ids ≡ true

-- The rows of these effects have ids and positions that the request names.
pub record OwnKeys (r : Request) (e : Effects) : Type 0 where
  pub records : Only record_key (λ (k : Key). is_named_in k.major (ids_of r)) (e.changed ++ e.added)
  pub positions : Only position_key (λ (k : Key). is_among k (positions_of r)) e.positions
  pub process : OwnProcess (ids_of r) e.process

-- The id of the named record, where refusal 5 does not apply.
named-id : (id : ℤ) (o : Option Record) → ((x : Record) → o ≡ some x → x.id ≡ id) → not (is_some o) ≡ false → (the_record o).id ≡ id
unfolding the_record
named-id id o h f =
    let w : (x : Record) × (o ≡ some x) = is_some-present o (not-false (is_some o) f) in
    ap (λ (p : Option Record). (the_record p).id) w.1 ∙ h w.0 w.1

-- The process id of a step's row, where refusal 18 does not apply.
later-process : (step : Step) (process id suffix giving taking series : ℤ) (found : Option ProcessRow) → ((x : ProcessRow) → found ≡ some x → process_key x ≡ key_of process id)
    → not (may_step step suffix giving taking series found) ≡ false → (the_process found).process ≡ process
unfolding may_step the_process
later-process step process id suffix giving taking series none key h = clash refl h
later-process step process id suffix giving taking series (some p) key h = ap (λ (k : Key). k.major) (key p refl)

before-process : (step : Step) (process id suffix giving taking series : ℤ) (used : Option ℤ) (found : Option ProcessRow) → ((x : ProcessRow) → found ≡ some x → process_key x ≡ key_of process id)
    → is_out_of_turn step suffix giving taking series used found ≡ false → (process_before step process id suffix giving taking series found).process ≡ process
unfolding is_out_of_turn process_before opened_process
before-process Open process id suffix giving taking series used found key h = refl
before-process Claim process id suffix giving taking series used found key h = later-process Claim process id suffix giving taking series found key h
before-process Cancel process id suffix giving taking series used found key h = later-process Cancel process id suffix giving taking series found key h
before-process Refuse process id suffix giving taking series used found key h = later-process Refuse process id suffix giving taking series found key h
before-process ApproveGiver process id suffix giving taking series used found key h = later-process ApproveGiver process id suffix giving taking series found key h
before-process ApproveTaker process id suffix giving taking series used found key h = later-process ApproveTaker process id suffix giving taking series found key h

-- Each row's key has the property, row by row.
data Each {Row : Type 0} (key : Row → Key) (p : Key → Bool) : List Row → Type 0 where
  done : Each key p []
  row : {r : Row} {rest : List Row} → p (key r) ≡ true → Each key p rest → Each key p (r ∷ rest)

each-only : {Row : Type 0} (key : Row → Key) (p : Key → Bool) {rs : List Row} → Each key p rs → Only key p rs
each-only key p done = all_of-nil
each-only key p (row {r = r} {rest = rest} h k) = only-intro key p r rest h (each-only key p k)

each_append : {Row : Type 0} (key : Row → Key) (p : Key → Bool) {xs ys : List Row} → Each key p xs → Each key p ys → Each key p (xs ++ ys)
each_append key p done k = k
each_append key p (row h more) k = row h (each_append key p more k)

abbrev EachId : List ℤ → List Record → Type 0
EachId ids rs = Each record_key (λ (k : Key). is_named_in k.major ids) rs

parts-own : (today : ℤ) (ids : List ℤ) (r : Record) (suffix : ℤ) (parts : List ℤ) → is_named_in r.id ids ≡ true → EachId ids (part_records today r suffix parts)
unfolding part_records adjustable_record
parts-own today ids r suffix [] h = done
parts-own today ids r suffix (q ∷ rest) h = row h (parts-own today ids r (suffix +ℤ pos 1) rest h)

record OwnRows (r : Request) (e : Effects) : Type 0 where
  records : EachId (ids_of r) (e.changed ++ e.added)
  positions : Each position_key (λ (k : Key). is_among k (positions_of r)) e.positions
  process : OwnProcess (ids_of r) e.process

-- The sources of a merge are of named ids.
data NamedSources (ids : List ℤ) : List Source → Type 0 where
  no_source : NamedSources ids []
  source : {s : Source} {rest : List Source} → is_named_in (the_record s.found).id ids ≡ true → NamedSources ids rest → NamedSources ids (s ∷ rest)

changed-own : (ids : List ℤ) {sources : List Source} → NamedSources ids sources → EachId ids (map adjusted_record (records_of sources))
unfolding records_of adjusted_record
changed-own ids no_source = done
changed-own ids (source h k) = row h (changed-own ids k)

inverses-own : (today : ℤ) (ids : List ℤ) (into : ℤ) (earlier : List ℤ) {sources : List Source} → NamedSources ids sources → EachId ids (merge_inverses today into earlier sources)
unfolding merge_inverses inverse_record
inverses-own today ids into earlier no_source = done
inverses-own today ids into earlier (source {s = s} h k) = row h (inverses-own today ids into (s.pair.major ∷ earlier) k)

module _ (v : View) (true-to : TrueToKeys v) where
  named-sources : (ids : List ℤ) (ks : List Key) → ((id : ℤ) → is_named_in id (map (λ (k : Key). k.major) ks) ≡ true → is_named_in id ids ≡ true) →
      any_of (map is_missing (sources_of v ks)) ≡ false → NamedSources ids (sources_of v ks)
  unfolding sources_of is_missing
  named-sources ids [] n h = no_source
  named-sources ids (k ∷ rest) n h =
      source
      (subst (λ (id : ℤ). is_named_in id ids ≡ true)
      (sym (named-id k.major (v.record_at k.major k.minor) (true-to.record-id k.major k.minor) (any_of-head _ _ h)))
      (n k.major (named_here k.major (map (λ (x : Key). x.major) rest))))
      (named-sources ids rest (λ id w. n id (named-later id k.major (map (λ (x : Key). x.major) rest) w)) (any_of-tail _ _ h))

  -- The position of a key that is among these.
  among-seen : (account series : ℤ) (ks : List Key) → is_among (key_of account series) ks ≡ true → is_among (position_key (v.position_at account series)) ks ≡ true
  among-seen account series ks h = subst (λ (k : Key). is_among k ks ≡ true) (sym (true-to.position-key account series)) h

  named-seen : (id suffix : ℤ) → not (is_some (v.record_at id suffix)) ≡ false → is_named_in (the_record (v.record_at id suffix)).id (id ∷ []) ≡ true
  named-seen id suffix f =
      subst (λ (x : ℤ). is_named_in x (id ∷ []) ≡ true) (sym (named-id id (v.record_at id suffix) (true-to.record-id id suffix) f)) (named_here id [])

  -- A give-up's rows, completed or not.
  module _ (ids : List ℤ) (r : Record) (n : is_named_in r.id ids ≡ true) (today next to : ℤ) (old new : Position) where
    give-up-records : (complete : Bool) (step : Step) → EachId ids ((cond complete (transfer_effects give_up_kind take_up_kind today r next to old new) (step_effects step r)).changed
        ++ (cond complete (transfer_effects give_up_kind take_up_kind today r next to old new) (step_effects step r)).added)
    unfolding record_after adjusted_record inverse_record adjustable_record
    give-up-records true step = row n (row n (row n done))
    give-up-records false Open = row n done
    give-up-records false Claim = done
    give-up-records false Cancel = row n done
    give-up-records false Refuse = row n done
    give-up-records false ApproveGiver = done
    give-up-records false ApproveTaker = done

    give-up-positions : (complete : Bool) (step : Step) (ks : List Key) → is_among (position_key old) ks ≡ true → is_among (position_key new) ks ≡ true
        → Each position_key (λ (k : Key). is_among k ks) (cond complete (transfer_effects give_up_kind take_up_kind today r next to old new) (step_effects step r)).positions
    unfolding moved
    give-up-positions true step ks h k = row h (row k done)
    give-up-positions false step ks h k = done

  -- Each kind's rows, where its own tests pass.
  own-rows : (r : Request) → first_refusal (own_tests (plan_of v r)) ≡ none → OwnRows r (effects_of (plan_of v r))
  unfolding plan_of ids_of positions_of trade_plan separation_plan transfer_plan merge_plan lineage_plan day_plan give_up_plan give_up_effects new_record adjusted_record inverse_record adjustable_record merged_record moved
  own-rows (trade id account series side quantity price) h = record {
    records = row (named_here id []) done;
    positions = row (among-seen account series (key_of account series ∷ []) (among-here (key_of account series) [])) done;
    process = tt;
  }
  own-rows (separate id suffix account series parts) h =
      let n : is_named_in (the_record (v.record_at id suffix)).id (id ∷ []) ≡ true = named-seen id suffix (test-passes 5 _ _ (rest-passes _ _ h)) in
      record {
        records = row n (row n (parts-own v.day (id ∷ []) (the_record (v.record_at id suffix)) (next_suffix (v.greatest_suffix id) +ℤ pos 1) parts n));
        positions = done;
        process = tt;
      }
  own-rows (transfer id suffix from to series) h =
      let n : is_named_in (the_record (v.record_at id suffix)).id (id ∷ []) ≡ true = named-seen id suffix (test-passes 5 _ _ (rest-passes _ _ h)) in
      let ks : List Key = key_of from series ∷ key_of to series ∷ [] in
      record {
        records = row n (row n (row n done));
        positions =
            row (among-seen from series ks (among-here (key_of from series) (key_of to series ∷ [])))
            (row (among-seen to series ks (among_later (key_of to series) (key_of from series) (key_of to series ∷ []) (among-here (key_of to series) []))) done);
        process = tt;
      }
  own-rows (merge id account series pairs) h =
      let ids : List ℤ = id ∷ map (λ (k : Key). k.major) (pairs_of pairs) in
      let sources : List Source = sources_of v (pairs_of pairs) in
      let p : Key → Bool = λ (k : Key). is_named_in k.major ids in
      let n : NamedSources ids sources =
      named-sources ids (pairs_of pairs) (λ x w. named-later x id (map (λ (k : Key). k.major) (pairs_of pairs)) w)
      (each-passes 5 _ _ (rest-passes _ _ (rest-passes _ _ h))) in
      record {
        records =
            each_append record_key p (changed-own ids n)
            (each_append record_key p (inverses-own v.day ids id [] n) (row (named_here id (map (λ (k : Key). k.major) (pairs_of pairs))) done));
        positions = row (among-seen account series (key_of account series ∷ []) (among-here (key_of account series) [])) done;
        process = tt;
      }
  own-rows (lineage id suffix) h = record { records = done; positions = done; process = tt }
  own-rows (new_day day) h = record { records = done; positions = done; process = tt }
  own-rows (give_up step process id suffix giving taking series) h =
      let ids : List ℤ = process ∷ id ∷ [] in
      let ks : List Key = key_of giving series ∷ key_of taking series ∷ [] in
      let r : Record = the_record (v.record_at id suffix) in
      let next : ℤ = next_suffix (v.greatest_suffix id) in
      let old : Position = v.position_at giving series in
      let new : Position = v.position_at taking series in
      let before : ProcessRow = process_before step process id suffix giving taking series (v.process_at process id) in
      let n : is_named_in r.id ids ≡ true =
      named-later r.id process (id ∷ []) (named-seen id suffix (test-passes 5 _ _ (rest-passes _ _ (rest-passes _ _ h)))) in
      let own-process : before.process ≡ process =
      before-process step process id suffix giving taking series (v.transaction_of process) (v.process_at process id) (true-to.process-key process id) (test-passes 18 _ _ (rest-passes _ _ h)) in
      record {
        records = give-up-records ids r n v.day next taking old new (is_complete (stepped step before)) step;
        positions = give-up-positions ids r n v.day next taking old new (is_complete (stepped step before)) step ks
            (among-seen giving series ks (among-here (key_of giving series) (key_of taking series ∷ [])))
            (among-seen taking series ks (among_later (key_of taking series) (key_of giving series) (key_of taking series ∷ []) (among-here (key_of taking series) [])));
        process = subst (λ (x : ℤ). is_named_in x ids ≡ true) (sym (ap (λ (k : Key). k.major) (stepped-key step before) ∙ own-process)) (named_here process (id ∷ []));
      }

  pub own_keys : (r : Request) → first_refusal (own_tests (plan_of v r)) ≡ none → OwnKeys r (effects_of (plan_of v r))
  own_keys r h = record {
    records = each-only record_key (λ (k : Key). is_named_in k.major (ids_of r)) (own-rows r h).records;
    positions = each-only position_key (λ (k : Key). is_among k (positions_of r)) (own-rows r h).positions;
    process = (own-rows r h).process;
  }
