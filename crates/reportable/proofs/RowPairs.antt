-- The pairs that a row gives to the list, by what the code asks of it: its day, its status, its parent's day. By the definitions. Assumes nothing.
use Prim.Native.Nat.{ℕ}
use native.Mathlib.Omega.{arith}
use mathlib.Core.Path.{◌≡◌, refl, sym, ◌∙◌, ap, subst}
use mathlib.Core.Bool.{Bool, true, false, cond, not}
use mathlib.Core.List.{List, [], ◌∷◌}
use mathlib.Core.Option.{none, some}
use borrow.Author.Tests.{not-false, eqb-true}
use Rattle.std.specs.Prelude.{Result, Ok, Err}
use Rattle.std.specs.Result.{result_eq}
use lib.IntN.{ℤ}
use lib.Dec.{eqb}
use lib.ListN.{length}
use lib.Signed.{lt_z}
use Rattle.integers.specs.Order.{eq_z}
use Rattle.rules.specs.Figures.{adjustable, inverse, under_give_up}
use Rattle.rules.specs.Keyed.{is_some}
use Rattle.rules.specs.Reportable.{is_of_day, is_inverse, parent_of, is_of_earlier_day, is_reportable, lacks_parent, reportable_among}
use Rattle.rules.specs.Totals.{is_live}
use Rattle.rules.specs.declared.Record.{Record}
use Rattle.rules.specs.declared.refusals.Reason.{Reason}
use Rattle.rules.specs.declared.refusals.Reason.TheVariants.{NoRecord}
use Rattle.reportable.specs.Listing.{pairs_of_row}

-- ---- by its status

live-adjustable : (r : Record) → r.status ≡ adjustable → (is_live r ≡ true) × (is_inverse r ≡ false)
unfolding is_live is_inverse eq_z
live-adjustable r e = (rw e, rw e)

live-under : (r : Record) → r.status ≡ under_give_up → (is_live r ≡ true) × (is_inverse r ≡ false)
unfolding is_live is_inverse eq_z
live-under r e = (rw e, rw e)

inverse-not-live : (r : Record) → r.status ≡ inverse → (is_live r ≡ false) × (is_inverse r ≡ true)
unfolding is_live is_inverse eq_z
inverse-not-live r e = (rw e, rw e)

neither : (r : Record) → eq_z r.status adjustable ≡ false → eq_z r.status under_give_up ≡ false → eq_z r.status inverse ≡ false → (is_live r ≡ false) × (is_inverse r ≡ false)
unfolding is_live is_inverse
neither r a u i = (rw (a, u), i)

module _ (today : ℤ) (records : List Record) (r : Record) where
  pub other-day : eq_z r.day today ≡ false → Ok 0 ≡ pairs_of_row today records r
  unfolding pairs_of_row lacks_parent is_reportable is_of_day
  other-day h = rw h

  module _ (own : eq_z r.day today ≡ true) where
    reported : is_live r ≡ true → is_inverse r ≡ false → Ok 1 ≡ pairs_of_row today records r
    unfolding pairs_of_row lacks_parent is_reportable is_of_day
    reported live not-inverse = rw (own, live, not-inverse)

    pub adjustable-row : r.status ≡ adjustable → Ok 1 ≡ pairs_of_row today records r
    adjustable-row e = reported (live-adjustable r e).0 (live-adjustable r e).1

    pub under-row : r.status ≡ under_give_up → Ok 1 ≡ pairs_of_row today records r
    under-row e = reported (live-under r e).0 (live-under r e).1

    adjusted-as : is_live r ≡ false → is_inverse r ≡ false → Ok 0 ≡ pairs_of_row today records r
    unfolding pairs_of_row lacks_parent is_reportable is_of_day
    adjusted-as not_live not-inverse = rw (own, not_live, not-inverse)

    pub adjusted-row : eq_z r.status adjustable ≡ false → eq_z r.status under_give_up ≡ false → eq_z r.status inverse ≡ false → Ok 0 ≡ pairs_of_row today records r
    adjusted-row a u i = adjusted-as (neither r a u i).0 (neither r a u i).1

    module _ (inverted : r.status ≡ inverse) where
      pub missing-parent : parent_of records r ≡ none → Err NoRecord ≡ pairs_of_row today records r
      unfolding pairs_of_row lacks_parent is_reportable is_of_day is_some
      missing-parent e = rw (own, (inverse-not-live r inverted).1, e)

      module _ (p : Record) (there : parent_of records r ≡ some p) where
        pub earlier-parent : lt_z p.day today ≡ true → Ok 1 ≡ pairs_of_row today records r
        unfolding pairs_of_row lacks_parent is_reportable is_of_day is_some is_of_earlier_day
        earlier-parent h = rw (own, (inverse-not-live r inverted).0, (inverse-not-live r inverted).1, there, h)

        pub same-day-parent : lt_z p.day today ≡ false → Ok 0 ≡ pairs_of_row today records r
        unfolding pairs_of_row lacks_parent is_reportable is_of_day is_some is_of_earlier_day
        same-day-parent h = rw (own, (inverse-not-live r inverted).0, (inverse-not-live r inverted).1, there, h)

  -- ---- what the answer says

  pub row-lacks : (e : Reason) → pairs_of_row today records r ≡ Err e → (lacks_parent today records r ≡ true) × (e ≡ NoRecord)
  unfolding pairs_of_row
  row-lacks e h = go (lacks_parent today records r) (cond (is_reportable today records r) 1 0) h
    where
      go : (lacks : Bool) (n : ℕ) → cond lacks (Err NoRecord) (Ok n) ≡ Err e → (lacks ≡ true) × (e ≡ NoRecord)
      go true n k = (refl, cc)
      go false n k = absurd (cc)

  pub row-whole : (n : ℕ) → pairs_of_row today records r ≡ Ok n → lacks_parent today records r ≡ false
  unfolding pairs_of_row
  row-whole n h = go (lacks_parent today records r) (cond (is_reportable today records r) 1 0) h
    where
      go : (lacks : Bool) (m : ℕ) → cond lacks (Err NoRecord) (Ok m) ≡ Ok n → lacks ≡ false
      go true m k = absurd (cc)
      go false m k = refl

  -- With its parent there, or no need of one, the number is that of the reportable records of this row.
  module _ (whole : lacks_parent today records r ≡ false) where
    as-reported : pairs_of_row today records r ≡ Ok (length (reportable_among today records (r ∷ [])))
    unfolding pairs_of_row reportable_among
    as-reported = rw whole (go (is_reportable today records r))
      where
        go : (reports : Bool) → ◌≡◌ {A = Result ℕ Reason} (Ok (cond reports 1 0)) (Ok (length (cond reports (r ∷ []) [])))
        go true = refl
        go false = refl

    pub one-reported : pairs_of_row today records r ≡ Ok 1 → reportable_among today records (r ∷ []) ≡ r ∷ []
    unfolding reportable_among
    one-reported h = go (is_reportable today records r) (sym as-reported ∙ h)
      where
        go : (reports : Bool) → ◌≡◌ {A = Result ℕ Reason} (Ok (length (cond reports (r ∷ []) []))) (Ok 1) → cond reports (r ∷ []) [] ≡ r ∷ []
        go true e = refl
        go false e = let z : ◌≡◌ {A = ℕ} 0 1 = cc in absurd (omega arith)

    pub none-reported : (pairs_of_row today records r ≡ Ok 1 → ⊥) → reportable_among today records (r ∷ []) ≡ []
    unfolding reportable_among
    none-reported n = go (is_reportable today records r) (λ e. n (as-reported ∙ e))
      where
        go : (reports : Bool) → (◌≡◌ {A = Result ℕ Reason} (Ok (length (cond reports (r ∷ []) []))) (Ok 1) → ⊥) → cond reports (r ∷ []) [] ≡ []
        go true e = absurd (e refl)
        go false e = refl

  -- The number of a row that has its parent.
  pub given_is : (n : ℕ) → pairs_of_row today records r ≡ Ok n → n ≡ length (reportable_among today records (r ∷ []))
  given_is n h = let e : Ok n ≡ Ok (length (reportable_among today records (r ∷ []))) = sym h ∙ as-reported (row-whole n h) in cc

-- ---- an answer compared with one pair

module _ (same : Reason → Reason → Bool) where
  pub one-pair-told : (r : Result ℕ Reason) → false ≡ not (result_eq eqb same r (Ok 1)) → r ≡ Ok 1
  one-pair-told (Ok n) h = ap Ok (eqb-true n 1 (not-false (eqb n 1) (sym h)))
  one-pair-told (Err e) h = absurd (cc)

  pub other-told : (r : Result ℕ Reason) → true ≡ not (result_eq eqb same r (Ok 1)) → r ≡ Ok 1 → ⊥
  other-told r h e = let k : true ≡ not (result_eq eqb same (Ok 1) (Ok 1)) = subst (λ (x : Result ℕ Reason). true ≡ not (result_eq eqb same x (Ok 1))) e h in absurd (cc)
