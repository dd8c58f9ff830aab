-- The tests of the record that a step names, as the code makes them: those of an opening with that of the process table's room, and those of a later step.
use Rattle.std.specs.Prelude.{◌+◌, not, List, [], ◌∷◌, ltb, ℤ, length}
use Rattle.integers.specs.Order.{eq_z}
use Rattle.rules.specs.Figures.{is_to_close, under_give_up}
use Rattle.rules.specs.NamedRecord.{is_elsewhere, status_test}
use Rattle.rules.specs.Refusal.{Test, test}
use Rattle.rules.specs.Layout.{room_of, rows_of}
use Rattle.rules.specs.Tables.{processes_layout}
use Rattle.rules.specs.declared.Record.{Record}

-- 6, 7 or 17, 8, and 23.
abbrev pub opening_tests : (processes : List ℤ) → Record → (giving series : ℤ) → List Test
opening_tests processes r giving series =
    test 6 (is_elsewhere giving series r)
    ∷ status_test r
    ∷ test 8 (is_to_close r.side)
    ∷ test 23 (ltb (room_of processes_layout processes) (length (rows_of processes_layout processes) + 1))
    ∷ []

-- 6, 7 "meaning status not 3", and 8.
abbrev pub later_tests : Record → (giving series : ℤ) → List Test
later_tests r giving series =
    test 6 (is_elsewhere giving series r)
    ∷ test 7 (not (eq_z r.status under_give_up))
    ∷ test 8 (is_to_close r.side)
    ∷ []
