-- Locality: a request's plan is the same in two views that agree at the ids and positions that it names. One short proof for each kind of request, since each plan
-- is a function of the values that it reads. Assumes nothing.
use mathlib.Core.Path.{◌≡◌, refl, ◌∙◌, ap, ap₂, fun_ext}
use mathlib.Core.Bool.{true}
use mathlib.Core.List.{List, [], ◌∷◌, map}
use mathlib.Core.Option.{Option}
use lib.IntN.{ℤ}
use Rattle.rules.specs.Keyed.{Key}
use Rattle.rules.specs.Rows.{key_of}
use Rattle.rules.specs.Request.{Request, trade, separate, transfer, merge, lineage, give_up, new_day}
use Rattle.rules.specs.Books.{View}
use Rattle.rules.specs.Trade.{trade_plan}
use Rattle.rules.specs.Separation.{separation_plan}
use Rattle.rules.specs.Transfer.{transfer_plan}
use Rattle.rules.specs.Merge.{Source, merge_plan, sources_of, pairs_of, is_among}
use Rattle.rules.specs.Lineage.{lineage_plan}
use Rattle.rules.specs.GiveUp.{give_up_plan}
use Rattle.rules.specs.Day.{day_plan}
use Rattle.rules.specs.Touching.{ids_of, positions_of, is_named_in}
use Rattle.rules.specs.Handle.{plan_of}
use Rattle.rules.specs.declared.Record.{Record}
use Rattle.rules.specs.declared.Position.{Position}
use Rattle.rules.specs.declared.ProcessRow.{ProcessRow}
use Rattle.history.proofs.Named.{named_here, named-later, among-here, among_later}

-- Two views agree at these ids.
pub record AgreeAtIds (v w : View) (ids : List ℤ) : Type 0 where
  pub record-at : (id : ℤ) → is_named_in id ids ≡ true → (suffix : ℤ) → v.record_at id suffix ≡ w.record_at id suffix
  pub greatest-at : (id : ℤ) → is_named_in id ids ≡ true → v.greatest_suffix id ≡ w.greatest_suffix id

-- Two views agree at what a request names, and on the current day.
pub record Agree (v w : View) (r : Request) : Type 0 where
  pub at-ids : AgreeAtIds v w (ids_of r)
  pub at-positions : (account series : ℤ) → is_among (key_of account series) (positions_of r) ≡ true → v.position_at account series ≡ w.position_at account series
  pub at-processes : (process : ℤ) → is_named_in process (ids_of r) ≡ true → (id : ℤ) → v.process_at process id ≡ w.process_at process id
  pub transaction-of : (process : ℤ) → is_named_in process (ids_of r) ≡ true → v.transaction_of process ≡ w.transaction_of process
  pub day : v.day ≡ w.day

module _ (v w : View) where
  fewer : (id : ℤ) (ids : List ℤ) → AgreeAtIds v w (id ∷ ids) → AgreeAtIds v w ids
  fewer id ids a = record {
    record-at = λ x n. a.record-at x (named-later x id ids n);
    greatest-at = λ x n. a.greatest-at x (named-later x id ids n);
  }

  pub same-sources : (ks : List Key) → AgreeAtIds v w (map (λ (k : Key). k.major) ks) → sources_of v ks ≡ sources_of w ks
  unfolding sources_of
  same-sources [] a = refl
  same-sources (k ∷ rest) a =
      let ids : List ℤ = map (λ (x : Key). x.major) rest in
      let f : v.record_at k.major k.minor ≡ w.record_at k.major k.minor = a.record-at k.major (named_here k.major ids) k.minor in
      let g : v.greatest_suffix k.major ≡ w.greatest_suffix k.major = a.greatest-at k.major (named_here k.major ids) in
      let first : ◌≡◌ {A = Source} (record { pair = k; found = v.record_at k.major k.minor; greatest = v.greatest_suffix k.major })
      (record { pair = k; found = w.record_at k.major k.minor; greatest = w.greatest_suffix k.major }) =
      λ i. record { pair = k; found = f i; greatest = g i } in
      ap₂ (λ (s : Source) (l : List Source). s ∷ l) first (same-sources rest (fewer k.major ids a))

  pub local : (r : Request) → Agree v w r → plan_of v r ≡ plan_of w r
  unfolding plan_of ids_of positions_of
  local (trade id account series side quantity price) a =
      ap (λ (d : ℤ). trade_plan d id account series side quantity price (v.greatest_suffix id) (v.position_at account series)) a.day
      ∙ ap₂ (λ (g : Option ℤ) (p : Position). trade_plan w.day id account series side quantity price g p)
      (a.at-ids.greatest-at id (named_here id [])) (a.at-positions account series (among-here (key_of account series) []))
  local (separate id suffix account series parts) a =
      ap (λ (d : ℤ). separation_plan d id suffix account series parts (v.record_at id suffix) (v.greatest_suffix id)) a.day
      ∙ ap₂ (λ (f : Option Record) (g : Option ℤ). separation_plan w.day id suffix account series parts f g)
      (a.at-ids.record-at id (named_here id []) suffix) (a.at-ids.greatest-at id (named_here id []))
  local (transfer id suffix from to series) a =
      ap (λ (d : ℤ). transfer_plan d id suffix from to series (v.record_at id suffix) (v.greatest_suffix id) (v.position_at from series) (v.position_at to series)) a.day
      ∙ ap₂ (λ (f : Option Record) (g : Option ℤ). transfer_plan w.day id suffix from to series f g (v.position_at from series) (v.position_at to series))
      (a.at-ids.record-at id (named_here id []) suffix) (a.at-ids.greatest-at id (named_here id []))
      ∙ ap₂ (λ (o n : Position). transfer_plan w.day id suffix from to series (w.record_at id suffix) (w.greatest_suffix id) o n)
      (a.at-positions from series (among-here (key_of from series) (key_of to series ∷ [])))
      (a.at-positions to series (among_later (key_of to series) (key_of from series) (key_of to series ∷ []) (among-here (key_of to series) [])))
  local (merge id account series pairs) a =
      let ids : List ℤ = map (λ (k : Key). k.major) (pairs_of pairs) in
      ap (λ (d : ℤ). merge_plan d id account series pairs (v.greatest_suffix id) (sources_of v (pairs_of pairs)) (v.position_at account series)) a.day
      ∙ ap₂ (λ (g : Option ℤ) (s : List Source). merge_plan w.day id account series pairs g s (v.position_at account series))
      (a.at-ids.greatest-at id (named_here id ids)) (same-sources (pairs_of pairs) (fewer id ids a.at-ids))
      ∙ ap (λ (p : Position). merge_plan w.day id account series pairs (w.greatest_suffix id) (sources_of w (pairs_of pairs)) p)
      (a.at-positions account series (among-here (key_of account series) []))
  local (lineage id suffix) a =
      ap (λ (f : ℤ → Option Record). lineage_plan id suffix f) (fun_ext (a.at-ids.record-at id (named_here id [])))
  local (give_up step process id suffix giving taking series) a =
      let first : is_named_in process (process ∷ id ∷ []) ≡ true = named_here process (id ∷ []) in
      let second : is_named_in id (process ∷ id ∷ []) ≡ true = named-later id process (id ∷ []) (named_here id []) in
      ap (λ (d : ℤ). give_up_plan step d process id suffix giving taking series (v.transaction_of process) (v.process_at process id) (v.record_at id suffix) (v.greatest_suffix id) (v.position_at giving series) (v.position_at taking series))
      a.day
      ∙ ap₂ (λ (u : Option ℤ) (p : Option ProcessRow). give_up_plan step w.day process id suffix giving taking series u p (v.record_at id suffix) (v.greatest_suffix id) (v.position_at giving series) (v.position_at taking series))
      (a.transaction-of process first) (a.at-processes process first id)
      ∙ ap₂ (λ (f : Option Record) (g : Option ℤ). give_up_plan step w.day process id suffix giving taking series (w.transaction_of process) (w.process_at process id) f g (v.position_at giving series) (v.position_at taking series))
      (a.at-ids.record-at id second suffix) (a.at-ids.greatest-at id second)
      ∙ ap₂ (λ (o n : Position). give_up_plan step w.day process id suffix giving taking series (w.transaction_of process) (w.process_at process id) (w.record_at id suffix) (w.greatest_suffix id) o n)
      (a.at-positions giving series (among-here (key_of giving series) (key_of taking series ∷ [])))
      (a.at-positions taking series (among_later (key_of taking series) (key_of giving series) (key_of taking series ∷ []) (among-here (key_of taking series) [])))
  local (new_day day) a = ap (λ (d : ℤ). day_plan d day) a.day
