-- What the call for the list is answered: refusals 1, 5 and 14, each of which leaves every cell, or the number of records with their pairs written. By the definitions. Assumes nothing.
use Prim.Native.Nat.{ℕ, ◌*◌}
use mathlib.Core.Path.{◌≡◌, refl, sym, ◌∙◌, ap}
use mathlib.Core.Bool.{Bool, true, false, cond, not}
use mathlib.Core.List.{List, [], ◌∷◌, map}
use lib.Dec.{ltb}
use Rattle.std.specs.Prelude.{Ok, Err}
use lib.IntN.{ℤ, pos}
use lib.ListN.{length}
use Rattle.rules.specs.Call.{reportable, handle_call}
use Rattle.rules.specs.Handle.{answer}
use Rattle.rules.specs.Layout.{rows_of}
use Rattle.rules.specs.Left.{left, left_by, written_to}
use Rattle.rules.specs.Refusal.{Test, test, any_of, first_refusal}
use Rattle.rules.specs.Reply.{refused_by}
use Rattle.rules.specs.Reportable.{lacks_parent, reportable_among, ids_and_suffixes, reportable_tests, listed_in, handle_reportable}
use Rattle.rules.specs.Tables.{records_layout, tables_of, current_day, sound_records, books_of}
use Rattle.rules.specs.declared.Record.{Record}
use Rattle.rules.specs.declared.refusals.Reason.{Reason}
use Rattle.rules.specs.declared.refusals.Reason.TheVariants.{NoRecord}
use Rattle.rules.specs.declared.Reply.{Reply}
use Rattle.rules.specs.declared.Reply.TheVariants.{Refused, Listed}
use Rattle.reportable.specs.Listing.{counted_of}

module _ (rs pairs : List ℤ) where
  abbrev rows : List Record
  rows = rows_of records_layout rs

  abbrev listed : List Record
  listed = reportable_among (current_day rs) rows rows

  -- A call of this reply that leaves these pairs.
  abbrev pub Answered : Reply → List ℤ → Type 0
  Answered reply after = left reply after rs [] ≡ left_by pairs (handle_call (tables_of rs []) (reportable (length pairs)))

  abbrev tests : List Test
  tests =
      test 1 (not (sound_records rs)) ∷ test 5 (any_of (map (lacks_parent (current_day rs) rows) rows)) ∷ test 14 (ltb (length pairs) (2 * length listed)) ∷ []

  as-tests : handle_call (tables_of rs []) (reportable (length pairs))
      ≡ answer (first_refusal tests) (tables_of rs []) (record { reply = Listed (pos (length listed)); output = ids_and_suffixes listed; tables = tables_of rs [] })
  unfolding handle_call handle_reportable reportable_tests listed_in books_of
  as-tests = refl

  pub refused-unsound : sound_records rs ≡ false → Answered (Refused (pos 1) (pos 0)) pairs
  unfolding first_refusal test answer refused_by written_to
  refused-unsound h = sym (ap (left_by pairs) as-tests ∙ rw h)

  module _ (sound : sound_records rs ≡ true) where
    -- ---- what the count says

    pub counted-none : (e : Reason) → counted_of (current_day rs) rows rows ≡ Err e → (any_of (map (lacks_parent (current_day rs) rows) rows) ≡ true) × (e ≡ NoRecord)
    unfolding counted_of
    counted-none e h = go (any_of (map (lacks_parent (current_day rs) rows) rows)) _ h
      where
        go : (b : Bool) (n : ℕ) → cond b (Err NoRecord) (Ok n) ≡ Err e → (b ≡ true) × (e ≡ NoRecord)
        go true n k = (refl, cc)
        go false n k = absurd (cc)

    pub counted-all : (n : ℕ) → counted_of (current_day rs) rows rows ≡ Ok n → (any_of (map (lacks_parent (current_day rs) rows) rows) ≡ false) × (length listed ≡ n)
    unfolding counted_of
    counted-all n h = go (any_of (map (lacks_parent (current_day rs) rows) rows)) _ h
      where
        go : (b : Bool) (m : ℕ) → cond b (Err NoRecord) (Ok m) ≡ Ok n → (b ≡ false) × (m ≡ n)
        go true m e = absurd (cc)
        go false m e = (refl, cc)

    pub refused-missing : any_of (map (lacks_parent (current_day rs) rows) rows) ≡ true → Answered (Refused (pos 5) (pos 0)) pairs
    unfolding first_refusal test answer refused_by written_to
    refused-missing h = sym (ap (left_by pairs) as-tests ∙ rw (sound, h))

    module _ (n : ℕ) (counted : counted_of (current_day rs) rows rows ≡ Ok n) where
      pub refused-short : ltb (length pairs) (2 * n) ≡ true → Answered (Refused (pos 14) (pos 0)) pairs
      unfolding first_refusal test answer refused_by written_to
      refused-short h =
          let c : (any_of (map (lacks_parent (current_day rs) rows) rows) ≡ false) × (length listed ≡ n) = counted-all n counted in
          sym (ap (left_by pairs) as-tests ∙ rw (sound, c.0, c.1, h))

      pub listed-all : ltb (length pairs) (2 * n) ≡ false → (after : List ℤ) → after ≡ written_to pairs (ids_and_suffixes listed) → Answered (Listed (pos n)) after
      unfolding first_refusal test answer
      listed-all h after e =
          let c : (any_of (map (lacks_parent (current_day rs) rows) rows) ≡ false) × (length listed ≡ n) = counted-all n counted in
          ap (λ (l : List ℤ). left (Listed (pos n)) l rs []) e
          ∙ sym (ap (left_by pairs) as-tests ∙ rw (sound, c.0, c.1, h))
