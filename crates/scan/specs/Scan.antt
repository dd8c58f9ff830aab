-- The part of a soundness test that reads the rows which the count names; of a record with its day.
use Rattle.std.specs.Prelude.{ℕ, Bool, ◌&&◌, List, map, ℤ}
use Rattle.rules.specs.Keyed.{Key, rising}
use Rattle.rules.specs.Refusal.{all_of}
use Rattle.rules.specs.Rows.{sound_record}
use Rattle.rules.specs.Layout.{Layout, decode}
use Rattle.rules.specs.Tables.{day_within}
use Rattle.rules.specs.declared.Record.{Record}

-- A record as the scan asks it: its day is within the current one, and it is sound.
unfoldable pub sound_record_on : (today : ℤ) → Record → Bool
sound_record_on today r = day_within today r && sound_record r

-- So many rows rise, and each is sound.
abbrev pub rows_rise_sound : {Row : Type 0} → Layout Row → (Row → Key) → (Row → Bool) → ℕ → List ℤ → Bool
rows_rise_sound l key sound_row count cells =
    rising key (decode l.get l.width count l.header cells) && all_of (map sound_row (decode l.get l.width count l.header cells))
