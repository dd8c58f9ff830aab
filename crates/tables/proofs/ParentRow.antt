-- The parent of a record of a sound table stands no later than the record, so that a search up to the record's row finds it or there is none. By the parent of a sound
-- record, which is not above its suffix. Assumes nothing.
use Prim.Native.Nat.{ℕ, ◌≤◌, ◌<◌}
use mathlib.Core.Path.{◌≡◌, refl, sym, ap, subst, ◌∙◌}
use mathlib.Core.Bool.{true, false, ◌&&◌}
use mathlib.Core.List.{List}
use mathlib.Core.Logic.{◌⊎◌, inl, inr}
use lib.IntN.{ℤ, pos}
use lib.ListN.{length}
use lib.Signed.{lt_z}
use Rattle.integers.specs.Order.{eq_z}
use Rattle.rules.specs.Keyed.{Key, below}
use Rattle.rules.specs.Rows.{key_of, record_key, valid_parent, sound_record}
use Rattle.rules.specs.Layout.{row_at, rows_of}
use Rattle.rules.specs.Tables.{records_layout}
use Rattle.rules.specs.Reportable.{parent_of}
use Rattle.rules.specs.declared.Record.{Record}
use Rattle.cells.specs.SoundTable.{SoundRecords}
use Rattle.keys.proofs.Split.{or_cases, and_left, and_right}
use Rattle.keys.proofs.Equal.{eq_z-true}
use Rattle.keys.proofs.KeyOrder.{below_irrefl, below-asym, below-minor}
use Rattle.soundness.proofs.SoundRecord.{record-sound}
use Rattle.lookup.specs.Lookup.{Searchable, row_found, found_in}
use Rattle.lookup.specs.Found.{found_told}
use Rattle.std.specs.Prelude.{Result, Ok, Err}
use Rattle.lookup.proofs.TableLookup.{records-first, table-found, table-absent}
use Rattle.lookup.proofs.FirstRows.{found_first}
use Rattle.tables.proofs.RowStatus.{row-sound}
use Rattle.tables.specs.Parent.{ParentAt}

abbrev parent_key : Record → Key
parent_key r = key_of r.id r.parent

parent-not-above : (r : Record) → sound_record r ≡ true → below (record_key r) (parent_key r) ≡ false
unfolding valid_parent
parent-not-above r sound = go (or_cases (lt_z r.parent r.suffix) (eq_z r.parent (pos 0) && eq_z r.suffix (pos 0)) (record-sound r sound).parent-below)
  where
    go : (lt_z r.parent r.suffix ≡ true) ⊎ ((eq_z r.parent (pos 0) && eq_z r.suffix (pos 0)) ≡ true) → below (record_key r) (parent_key r) ≡ false
    go (inl l) = below-asym (parent_key r) (record_key r) (below-minor (parent_key r) (record_key r) refl l)
    go (inr z) =
        let p : r.parent ≡ pos 0 = eq_z-true r.parent (pos 0) (and_left (eq_z r.parent (pos 0)) (eq_z r.suffix (pos 0)) z) in
        let s : r.suffix ≡ pos 0 = eq_z-true r.suffix (pos 0) (and_right (eq_z r.parent (pos 0)) (eq_z r.suffix (pos 0)) z) in
        ap (λ (x : ℤ). below (record_key r) (key_of r.id x)) (p ∙ sym s) ∙ below_irrefl (record_key r)

module _ (cells : List ℤ) (r : Record) where
  told : (f : Result ℕ ℕ) → found_told f ≡ found_in records_layout (parent_key r) cells → ParentAt cells r f
  unfolding parent_of
  told (Ok i) e = let t = table-found records_layout record_key records-first cells (parent_key r) i (sym e) in (t.0, t.1)
  told (Err place) e = (table-absent records_layout record_key records-first cells (parent_key r) place (sym e)).0

  -- `end` is told by what the search asked.
  pub parent-at : SoundRecords cells → (row : ℕ) → row < length (rows_of records_layout cells) → r ≡ row_at records_layout cells row
      → {end : ℕ} → Searchable records_layout.header records_layout.width end cells → row < end → end ≤ length (rows_of records_layout cells)
      → (f : Result ℕ ℕ) → found_told f ≡ row_found records_layout.header records_layout.width (parent_key r) end cells → ParentAt cells r f
  parent-at table row within own {end} asked past up_to_lem f e =
      told f
      (found_first records_layout record_key records-first sound_record cells table end up_to_lem row past (parent_key r)
      (ap (λ (x : Record). below (record_key x) (parent_key r)) (sym own) ∙ parent-not-above r (subst (λ (x : Record). sound_record x ≡ true) (sym own) (row-sound cells table row within)))
      (found_told f) e)
