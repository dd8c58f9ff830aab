-- What the booking of an accepted separation requires, step by step, and what it comes to. Assumes nothing.
use Prim.Native.Nat.{suc, ◌+◌, ◌≤◌}
use native.Mathlib.Omega.{arith}
use mathlib.Core.Path.{◌≡◌, sym, ◌∙◌, ap, subst}
use mathlib.Core.Bool.{true, false}
use mathlib.Core.List.{List, [], ◌∷◌, map}
use mathlib.Core.Option.{Option, some}
use lib.IntN.{ℤ, pos, ◌+ℤ◌}
use lib.ListN.{length}
use lib.Signed.{lt_z, ◌≤ℤ◌}
use Rattle.integers.proofs.Linear.{zarith}
use Rattle.rules.specs.Figures.{greatest_of_suffixes}
use Rattle.rules.specs.Keyed.{find}
use Rattle.rules.specs.Rows.{key_of, record_key, adjusted_record, inverse_record, sound_record}
use Rattle.rules.specs.NamedRecord.{the_record}
use Rattle.rules.specs.Refusal.{any_of}
use Rattle.rules.specs.Request.{separate}
use Rattle.rules.specs.Books.{view_of}
use Rattle.rules.specs.Plan.{suffix_is_above}
use Rattle.rules.specs.Separation.{part_records, separation_plan}
use Rattle.rules.specs.Layout.{room_of, rows_of}
use Rattle.rules.specs.Tables.{current_day, books_of, records_layout, sound_records, sound_positions, tables_of}
use Rattle.rules.specs.Handle.{plan_of, answered}
use Rattle.rules.specs.declared.Record.{Record}
use Rattle.rules.specs.declared.Reply.TheVariants.{Booked}
use Rattle.keys.proofs.Clauses.{all_of-head}
use Rattle.soundness.specs.SoundBooks.{Accepts}
use Rattle.soundness.proofs.Accepted.{booking-passed}
use Rattle.soundness.proofs.NamedRecord.{next_of}
use Rattle.soundness.proofs.Separation.{separation-facts}
use Rattle.cells.proofs.SoundCells.{record-rows-sound}
use Rattle.verdict.specs.Verdict.{verdict_on, accepted_on}
use Rattle.verdict.specs.Verdict.{Accepted}
use Rattle.verdict.proofs.Acceptance.{sound-books, accepted-accepts}
use Rattle.verdict.proofs.Puts.{put_all}
use Rattle.verdict.proofs.Ready.{Ready, ready}
use Rattle.verdict.proofs.SoundReads.{next-range}
use Rattle.verdict.proofs.Suffixes.{parts-count, above-parts}
use Rattle.verdict.proofs.Separation.{separation_inverse, separation_rows, separation-booked}

-- ---- what is required

module _ (rs ps : List ℤ) (id suffix account series : ℤ) (parts : List ℤ)
    (records-sound : sound_records rs ≡ true) (positions-sound : sound_positions ps ≡ true)
    (accepted : verdict_on rs ps (separate id suffix account series parts) ≡ Accepted) where
  accepts : Accepts (books_of (tables_of rs ps)) (separate id suffix account series parts)
  accepts = accepted-accepts rs ps (separate id suffix account series parts) accepted

  abbrev next : ℤ
  next = next_of (rows_of records_layout rs) id

  -- The next suffix and the last one.
  pub separation-next : (pos 0 ≤ℤ next) × ((next +ℤ pos (length parts)) ≤ℤ greatest_of_suffixes)
  unfolding plan_of separation_plan view_of books_of any_of suffix_is_above inverse_record
  separation-next =
      let r : Record = the_record (find record_key (key_of id suffix) (rows_of records_layout rs)) in
      let passed : any_of (map suffix_is_above (separation_inverse (current_day rs) r next ∷ part_records (current_day rs) r (next +ℤ pos 1) parts)) ≡ false =
      (booking-passed (books_of (tables_of rs ps)) _ _ accepts).suffixes in
      let last : lt_z greatest_of_suffixes (next +ℤ pos (length parts)) ≡ false = sym (above-parts (current_day rs) r next parts) ∙ passed in
      ((next-range rs (record-rows-sound rs records-sound) id).0, omega zarith)

  module _ (r : Record) (named : find record_key (key_of id suffix) (rows_of records_layout rs) ≡ some r) where
    pub separation-ready : Ready rs ps (adjusted_record r ∷ []) (separation_inverse (current_day rs) r next ∷ part_records (current_day rs) r (next +ℤ pos 1) parts) []
    unfolding plan_of separation_plan view_of books_of the_record
    separation-ready =
        subst
        (λ (o : Option Record). Ready rs ps (adjusted_record (the_record o) ∷ []) (separation_inverse (current_day rs) (the_record o) next ∷ part_records (current_day rs) (the_record o) (next +ℤ pos 1) parts) [])
        named
        (ready rs ps _ _ (separation-facts (books_of (tables_of rs ps)) (sound-books rs ps records-sound positions-sound) id suffix account series parts accepts) accepts)

    pub separation-adjusted : sound_record (adjusted_record r) ≡ true
    separation-adjusted = all_of-head (sound_record (adjusted_record r)) [] separation-ready.changed-sound

    -- Room for the inverse and the parts' rows.
    pub separation-room : length (rows_of records_layout rs) + suc (length parts) ≤ room_of records_layout rs
    separation-room = omega (arith, separation-ready.records-room, parts-count (current_day rs) r (next +ℤ pos 1) parts)

-- ---- what it comes to

module _ (rs ps : List ℤ) (id suffix account series : ℤ) (parts : List ℤ) (records-sound : sound_records rs ≡ true) (positions-sound : sound_positions ps ≡ true)
    (r : Record) (named : find record_key (key_of id suffix) (rows_of records_layout rs) ≡ some r) where
  abbrev first : ℤ
  first = next_of (rows_of records_layout rs) id

  pub separation-returns : (out : List ℤ) → out ≡ put_all records_layout record_key rs (separation_rows (current_day rs) r first parts)
      → answered (Booked (pos (length parts) +ℤ pos 1) (pos 0)) out ps ≡ accepted_on rs ps (separate id suffix account series parts)
  separation-returns out e =
      ap (λ (c : List ℤ). answered (Booked (pos (length parts) +ℤ pos 1) (pos 0)) c ps) e ∙ sym (separation-booked rs ps id suffix account series parts positions-sound r named)
