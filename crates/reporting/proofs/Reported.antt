-- The rules' test of a record (`is_reportable`) holds exactly where the record is reportable as document 02 says it (`Reportable`), in a table whose rows rise; and so of an inverse without its parent row.
-- Assumes nothing.
use mathlib.Core.Path.{◌≡◌, refl, sym, ◌∙◌, ap}
use mathlib.Core.Bool.{Bool, true, false, not, ◌&&◌, ◌||◌}
use mathlib.Core.List.{List}
use mathlib.Core.Logic.{◌⊎◌, inl, inr}
use mathlib.Core.Option.{Option, none, some}
use lib.IntN.{ℤ}
use Rattle.integers.specs.Order.{eq_z}
use Rattle.integers.proofs.Parts.{eq_z-true, true-eq_z}
use Rattle.integers.proofs.Order.{lt_z-lt, lt-lt_z}
use Rattle.rules.specs.Figures.{adjustable, inverse, under_give_up}
use Rattle.rules.specs.Keyed.{Key, is_some, rising, find}
use Rattle.rules.specs.Rows.{key_of, record_key}
use Rattle.rules.specs.Totals.{is_live}
use Rattle.rules.specs.Reportable.{is_of_day, is_inverse, parent_of, is_of_earlier_day, is_reportable, lacks_parent}
use Rattle.rules.specs.declared.Record.{Record}
use Rattle.keys.proofs.Split.{clash, is_false, and_intro, and_left, and_right, or_left, or_right, or_cases, Found, absent, present, found}
use Rattle.keys.proofs.Clauses.{is_some-none, is_some-some}
use Rattle.keys.proofs.Lookup.{find-key}
use Rattle.reporting.specs.Reported.{Parent, StatusReported, is-adjustable, is-under-give-up, is-inverse, Reportable}
use Rattle.reporting.proofs.Standing.{found-stands, stands-found}

module _ (records : List Record) (r : Record) where
  -- ---- the parent row

  pub parent-found : (p : Record) → parent_of records r ≡ some p → Parent records r p
  unfolding parent_of
  parent-found p h =
      let e : record_key p ≡ key_of r.id r.parent = find-key record_key (key_of r.id r.parent) records p h in
      record { stands = found-stands record_key (key_of r.id r.parent) records p h; same_id = ap (λ (k : Key). k.major) e; by-suffix = ap (λ (k : Key). k.minor) e }

  pub found-parent : rising record_key records ≡ true → (p : Record) → Parent records r p → parent_of records r ≡ some p
  unfolding parent_of
  found-parent rise p w =
      let e : record_key p ≡ key_of r.id r.parent = λ i. key_of (w.same_id i) (w.by-suffix i) in
      ap (λ (k : Key). find record_key k records) (sym e) ∙ stands-found record_key records p rise w.stands

  -- ---- of the current day

  module _ (today : ℤ) where
    status-told : (is_live r || (is_inverse r && is_of_earlier_day today (parent_of records r))) ≡ true → StatusReported today records r
    unfolding is_live is_inverse is_of_earlier_day
    status-told h = go (or_cases (is_live r) (is_inverse r && is_of_earlier_day today (parent_of records r)) h)
      where
        of-parent : eq_z r.status inverse ≡ true → (o : Option Record) → parent_of records r ≡ o → is_of_earlier_day today o ≡ true → StatusReported today records r
        of-parent s none e k = clash k refl
        of-parent s (some p) e k = is-inverse (eq_z-true r.status inverse s) p (parent-found p e) (lt_z-lt p.day today k)

        live : (eq_z r.status adjustable ≡ true) ⊎ (eq_z r.status under_give_up ≡ true) → StatusReported today records r
        live (inl e) = is-adjustable (eq_z-true r.status adjustable e)
        live (inr e) = is-under-give-up (eq_z-true r.status under_give_up e)

        go : (is_live r ≡ true) ⊎ ((is_inverse r && is_of_earlier_day today (parent_of records r)) ≡ true) → StatusReported today records r
        go (inl k) = live (or_cases (eq_z r.status adjustable) (eq_z r.status under_give_up) k)
        go (inr k) = of-parent (and_left (is_inverse r) (is_of_earlier_day today (parent_of records r)) k) (parent_of records r) refl (and_right (is_inverse r) (is_of_earlier_day today (parent_of records r)) k)

    told-status : rising record_key records ≡ true → StatusReported today records r → (is_live r || (is_inverse r && is_of_earlier_day today (parent_of records r))) ≡ true
    unfolding is_live is_inverse is_of_earlier_day
    told-status rise (is-adjustable e) = or_left (is_inverse r && is_of_earlier_day today (parent_of records r)) (or_left (eq_z r.status under_give_up) (true-eq_z r.status adjustable e))
    told-status rise (is-under-give-up e) = or_left (is_inverse r && is_of_earlier_day today (parent_of records r)) (or_right (eq_z r.status adjustable) (true-eq_z r.status under_give_up e))
    told-status rise (is-inverse e p w earlier) =
        or_right (is_live r)
        (and_intro (true-eq_z r.status inverse e) (ap (λ (o : Option Record). is_of_earlier_day today o) (found-parent rise p w) ∙ lt-lt_z earlier))

    -- Where the test holds, the record is reportable.
    pub reportable-told : is_reportable today records r ≡ true → Reportable today records r
    unfolding is_reportable is_of_day
    reportable-told h = record {
      of-today = eq_z-true r.day today (and_left (eq_z r.day today) (is_live r || (is_inverse r && is_of_earlier_day today (parent_of records r))) h);
      by-status = status-told (and_right (eq_z r.day today) (is_live r || (is_inverse r && is_of_earlier_day today (parent_of records r))) h);
    }

    -- Where the record is reportable, the test holds.
    pub told-reportable : rising record_key records ≡ true → Reportable today records r → is_reportable today records r ≡ true
    unfolding is_reportable is_of_day
    told-reportable rise w = and_intro (true-eq_z r.day today w.of-today) (told-status rise w.by-status)

    -- ---- "A current-day inverse without its parent row"

    -- Where the test does not hold, an inverse of the current day has its parent row.
    pub parent-told : lacks_parent today records r ≡ false → r.day ≡ today → r.status ≡ inverse → (p : Record) × (Parent records r p)
    unfolding lacks_parent is_of_day is_inverse
    parent-told h d s = go (found (parent_of records r))
      where
        go : Found (parent_of records r) → (p : Record) × (Parent records r p)
        go (absent e) = clash
            (and_intro (true-eq_z r.day today d) (and_intro (true-eq_z r.status inverse s) (ap (λ (o : Option Record). not (is_some o)) e ∙ ap not (is_some-none Record)))) h
        go (present p e) = (p, parent-found p e)

    -- And where each such inverse has it, the test does not hold.
    pub told_parent : rising record_key records ≡ true → (r.day ≡ today → r.status ≡ inverse → (p : Record) × (Parent records r p)) → lacks_parent today records r ≡ false
    unfolding lacks_parent is_of_day is_inverse
    told_parent rise has = is_false (lacks_parent today records r) (λ h. lacking h)
      where
        lacking : lacks_parent today records r ≡ true → ⊥
        lacking h =
            let d : Bool = eq_z r.day today in
            let s : Bool = eq_z r.status inverse in
            let without : Bool = not (is_some (parent_of records r)) in
            let w : (p : Record) × (Parent records r p) =
            has (eq_z-true r.day today (and_left d (s && without) h)) (eq_z-true r.status inverse (and_left s without (and_right d (s && without) h))) in
            clash (and_right s without (and_right d (s && without) h))
            (ap (λ (o : Option Record). not (is_some o)) (found-parent rise w.0 w.1) ∙ ap not (is_some-some w.0))
