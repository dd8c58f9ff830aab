-- What is read from sound tables: a record that is found has the key asked for and sound figures, suffixes of an id and its next one have their ranges,
-- and a position that is read is sound. Assumes nothing.
use mathlib.Core.Path.{◌≡◌, ap, subst}
use mathlib.Core.Bool.{true, false, not, ◌&&◌, beq}
use mathlib.Core.List.{List}
use mathlib.Core.Option.{some}
use lib.IntN.{ℤ, pos, neg_ℤ}
use lib.Signed.{lt_z, ◌≤ℤ◌}
use borrow.Author.Tests.{not-false}
use Rattle.integers.specs.Order.{eq_z}
use Rattle.integers.proofs.Parts.{eq_z-true}
use Rattle.integers.proofs.Linear.{zarith, +-lin, neg-lin}
use Rattle.rules.specs.Figures.{magnitude_at_most, most_quantity, greatest_of_suffixes, adjustable, inverse}
use Rattle.rules.specs.Keyed.{Key, find, greatest}
use Rattle.rules.specs.Rows.{key_of, record_key, sound_record, sound_position, valid_signed_quantity}
use Rattle.rules.specs.NamedRecord.{next_suffix, is_not_adjustable}
use Rattle.rules.specs.Layout.{rows_of}
use Rattle.rules.specs.Tables.{records_layout, positions_layout, sound_record_rows, sound_positions}
use Rattle.rules.specs.declared.Record.{Record}
use Rattle.keys.proofs.Split.{and_left, and_right, Found, absent, present, found}
use Rattle.keys.proofs.Lookup.{find-key, find-all}
use Rattle.keys.proofs.Greatest.{greatest-found}
use Rattle.cells.proofs.SoundCells.{records-known, positions-known}
use Rattle.soundness.proofs.SoundRecord.{SoundRecord, record-sound}
use Rattle.soundness.proofs.FigureRanges.{magnitude-range, in-magnitude, suffix-range}
use Rattle.soundness.proofs.NamedRecord.{next_of}
use Rattle.soundness.proofs.ReadPosition.{read-sound}
use Rattle.verdict.proofs.Room.{position_read}

signed-magnitude : (status q : ℤ) → valid_signed_quantity status q ≡ true → magnitude_at_most most_quantity q ≡ true
unfolding valid_signed_quantity
signed-magnitude status q h =
    and_right (not (eq_z q (pos 0))) (magnitude_at_most most_quantity q)
    (and_left (not (eq_z q (pos 0)) && magnitude_at_most most_quantity q) (beq (lt_z q (pos 0)) (eq_z status inverse)) h)

-- Test 7 does not apply.
pub status-adjustable : (r : Record) → is_not_adjustable r ≡ false → r.status ≡ adjustable
unfolding is_not_adjustable
status-adjustable r h = eq_z-true r.status adjustable (not-false (eq_z r.status adjustable) h)

-- A record that is found.
pub record FoundRecord (id suffix : ℤ) (r : Record) : Type 0 where
  pub sound : SoundRecord r
  pub id-is : r.id ≡ id
  pub suffix-is : r.suffix ≡ suffix
  pub quantity-small : magnitude_at_most most_quantity r.quantity ≡ true
  pub negated-small : magnitude_at_most most_quantity (neg_ℤ r.quantity) ≡ true

module _ (rs : List ℤ) (records-sound : sound_record_rows rs ≡ true) where
  pub found-record : (id suffix : ℤ) (r : Record) → find record_key (key_of id suffix) (rows_of records_layout rs) ≡ some r → FoundRecord id suffix r
  found-record id suffix r named =
      let k : record_key r ≡ key_of id suffix = find-key record_key (key_of id suffix) (rows_of records_layout rs) r named in
      let s : SoundRecord r = record-sound r (find-all record_key sound_record (key_of id suffix) (rows_of records_layout rs) r (records-known rs records-sound).rows-sound named) in
      let q : magnitude_at_most most_quantity r.quantity ≡ true = signed-magnitude r.status r.quantity s.quantity in
      let range : (neg_ℤ (pos most_quantity) ≤ℤ r.quantity) × (r.quantity ≤ℤ pos most_quantity) = magnitude-range most_quantity r.quantity q in
      record {
        sound = s;
        id-is = ap (λ (x : Key). x.major) k;
        suffix-is = ap (λ (x : Key). x.minor) k;
        quantity-small = q;
        negated-small = in-magnitude most_quantity (neg_ℤ r.quantity)
            (omega (zarith, neg-lin r.quantity, neg-lin (pos most_quantity))) (omega (zarith, neg-lin r.quantity, neg-lin (pos most_quantity)));
      }

  pub greatest-range : (id g : ℤ) → greatest record_key id (rows_of records_layout rs) ≡ some g → (pos 0 ≤ℤ g) × (g ≤ℤ greatest_of_suffixes)
  greatest-range id g e =
      let w : (x : Record) × (find record_key (key_of id g) (rows_of records_layout rs) ≡ some x) = greatest-found record_key id g (rows_of records_layout rs) e in
      let f : FoundRecord id g w.0 = found-record id g w.0 w.1 in
      subst (λ (s : ℤ). (pos 0 ≤ℤ s) × (s ≤ℤ greatest_of_suffixes)) f.suffix-is (suffix-range w.0.suffix f.sound.suffix)

  pub next-range : (id : ℤ) → (pos 0 ≤ℤ next_of (rows_of records_layout rs) id) × (next_of (rows_of records_layout rs) id ≤ℤ pos 65536)
  unfolding next_suffix
  next-range id = go (found (greatest record_key id (rows_of records_layout rs)))
    where
      go : Found (greatest record_key id (rows_of records_layout rs)) → (pos 0 ≤ℤ next_of (rows_of records_layout rs) id) × (next_of (rows_of records_layout rs) id ≤ℤ pos 65536)
      go (absent e) = rw e (omega zarith, omega zarith)
      go (present g e) =
          let range : (pos 0 ≤ℤ g) × (g ≤ℤ greatest_of_suffixes) = greatest-range id g e in
          rw e (omega (zarith, +-lin g (pos 1)), omega (zarith, +-lin g (pos 1)))

pub position-read-sound : (ps : List ℤ) → sound_positions ps ≡ true → (account series : ℤ) → sound_position (position_read ps account series) ≡ true
position-read-sound ps h account series = read-sound account series (rows_of positions_layout ps) (positions-known ps h).rows-sound
