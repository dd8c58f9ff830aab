-- What the lookup says of a sound records table. Assumes nothing.
use Rattle.std.proofs.Common.{◌≡◌, ℕ, ◌<◌, List, ℤ, pos, length, true, sym, ap₂, ◌∙◌, w64, of_z, to_z}
use mir.Facts.{sfits_lit, to_z-of_z}
use mir.Val.{SFits}
use Rattle.integers.proofs.Bits.{of_z-inj}
use Rattle.rules.specs.Rows.{key_of, record_key}
use Rattle.rules.specs.Layout.{rows_of}
use Rattle.rules.specs.Tables.{records_layout, sound_records, sound_record_rows}
use Rattle.cells.proofs.SoundCells.{record-rows-sound}
use Rattle.lookup.specs.Lookup.{record_sought}
use Rattle.lookup.specs.SoughtRows.{PresentAt, AbsentAt}
use Rattle.lookup.specs.Greatest.{Greatest}
use Rattle.lookup.specs.Sought.{Sought}
use Rattle.lookup.proofs.TableLookup.{records-first}
use Rattle.lookup.proofs.TableSought.{table-present, table-lacks}

pub rows_sound : (cells : List ℤ) → true ≡ sound_records cells → sound_record_rows cells ≡ true
rows_sound cells e = record-rows-sound cells (sym e)

module _ (cells : List ℤ) (sound : sound_record_rows cells ≡ true) (id suffix : ℤ) where
  -- The key is there.
  module _ (row : ℕ) (greatest : ℤ) (next : ℕ) (found : Sought.Present row greatest next ≡ record_sought cells id suffix) where
    present : PresentAt records_layout record_key cells (key_of id suffix) row greatest next
    present = table-present records_layout record_key records-first cells (key_of id suffix) row greatest next (sym found)

    pub row_there : row < length (rows_of records_layout cells)
    row_there = present.row_within

  -- The key is absent.
  module _ (place : ℕ) (greatest : Greatest) (found : Sought.Absent place greatest ≡ record_sought cells id suffix) where
    pub lacks : AbsentAt records_layout record_key cells (key_of id suffix) place greatest
    lacks = table-lacks records_layout record_key records-first cells (key_of id suffix) place greatest (sym found)

-- A status whose bits are 0.
pub no_status : (z : ℤ) → SFits w64 z → of_z w64 z ≡ 0 → z ≡ pos 0
no_status z f e = of_z-inj f (sfits_lit tt) e

-- What was asked is what was read back.
pub read_again : (cells : List ℤ) (id suffix : ℤ) (s : Sought) → SFits w64 id → SFits w64 suffix → s ≡ record_sought cells (to_z w64 (of_z w64 id)) (to_z w64 (of_z w64 suffix))
    → s ≡ record_sought cells id suffix
read_again cells id suffix s f g e = e ∙ ap₂ (record_sought cells) (to_z-of_z f) (to_z-of_z g)
