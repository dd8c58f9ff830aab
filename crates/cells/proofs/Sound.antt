-- A sound table: its count is sound, its rows rise, and each row is sound; each way. And a table written with such rows is sound, over any lawful layout.
-- Assumes nothing.
use Prim.Native.Nat.{◌≤◌}
use mathlib.Core.Path.{◌≡◌}
use mathlib.Core.Bool.{Bool, true, ◌&&◌}
use mathlib.Core.List.{List, map}
use lib.IntN.{ℤ}
use lib.ListN.{length}
use Rattle.rules.specs.Keyed.{Key, rising}
use Rattle.rules.specs.Refusal.{all_of}
use Rattle.rules.specs.Layout.{Layout, room_of, rows_of, count_is_sound, write}
use Rattle.rules.specs.Tables.{sound_table}
use Rattle.keys.proofs.Split.{and_intro, and_left, and_right}
use Rattle.cells.specs.Lawful.{Lawful}
use Rattle.cells.proofs.Write.{rows_write, write-sound-count}

module _ {Row : Type 0} (l : Layout Row) (key : Row → Key) (sound_row : Row → Bool) (cells : List ℤ) where
  pub sound-table : count_is_sound l cells ≡ true → rising key (rows_of l cells) ≡ true → all_of (map sound_row (rows_of l cells)) ≡ true
      → sound_table l key sound_row cells ≡ true
  unfolding sound_table
  sound-table c r a = and_intro (and_intro c r) a

  module _ (sound : sound_table l key sound_row cells ≡ true) where
    pub table-count : count_is_sound l cells ≡ true
    unfolding sound_table
    table-count =
        and_left (count_is_sound l cells) (rising key (rows_of l cells))
        (and_left (count_is_sound l cells && rising key (rows_of l cells)) (all_of (map sound_row (rows_of l cells))) sound)

    pub table-rises : rising key (rows_of l cells) ≡ true
    unfolding sound_table
    table-rises =
        and_right (count_is_sound l cells) (rising key (rows_of l cells))
        (and_left (count_is_sound l cells && rising key (rows_of l cells)) (all_of (map sound_row (rows_of l cells))) sound)

    pub table-rows : all_of (map sound_row (rows_of l cells)) ≡ true
    unfolding sound_table
    table-rows = and_right (count_is_sound l cells && rising key (rows_of l cells)) (all_of (map sound_row (rows_of l cells))) sound

-- Sound rows written where they fit.
pub sound-write : {Row : Type 0} (l : Layout Row) (lawful : Lawful l) (key : Row → Key) (sound_row : Row → Bool) (cells : List ℤ) (rows : List Row)
    → l.header ≤ length cells → length rows ≤ room_of l cells → rising key rows ≡ true → all_of (map sound_row rows) ≡ true
    → sound_table l key sound_row (write l cells rows) ≡ true
sound-write l lawful key sound_row cells rows h fit rises sound =
    sound-table l key sound_row (write l cells rows) (write-sound-count l lawful cells rows h fit)
    (rw (rows_write l lawful cells rows h) rises)
    (rw (rows_write l lawful cells rows h) sound)
