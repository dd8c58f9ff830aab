-- What several rules say of the record that a request names: its tests and its id's next suffix.
use Rattle.std.specs.Prelude.{ℕ, Bool, cond, not, ◌||◌, ℤ, pos, ◌+ℤ◌}
use Rattle.std.proofs.Math.Option.{Option, none, some}
use Rattle.integers.specs.Order.{eq_z}
use Rattle.rules.specs.Figures.{adjustable, under_give_up}
use Rattle.rules.specs.Refusal.{Test, test}
use Rattle.rules.specs.declared.Record.{Record}

-- The record that a rule speaks of once refusal 5 does not apply; where there is none the value is of no account.
unfoldable pub no_record : Record
no_record = record {
  id = pos 0;
  suffix = pos 0;
  parent = pos 0;
  kind = pos 0;
  status = pos 0;
  account = pos 0;
  series = pos 0;
  side = pos 0;
  quantity = pos 0;
  price = pos 0;
  long = pos 0;
  short = pos 0;
  into = pos 0;
  day = pos 0;
}

unfoldable pub the_record : Option Record → Record
the_record none = no_record
the_record (some r) = r

-- 6: "its account or series isn't the one named"
unfoldable pub is_elsewhere : ℤ → ℤ → Record → Bool
is_elsewhere account series r = not (eq_z r.account account) || not (eq_z r.series series)

-- 7: "its status isn't 0"
unfoldable pub is_not_adjustable : Record → Bool
is_not_adjustable r = not (eq_z r.status adjustable)

-- The number that a record of this status, not 0, is refused with: "Adjusting or opening on status 3 is refused 17, one test with 7" (document 02, K3).
unfoldable pub status_refusal : ℤ → ℕ
status_refusal status = cond (eq_z status under_give_up) 17 7

unfoldable pub status_test : Record → Test
status_test r = test (status_refusal r.status) (is_not_adjustable r)

-- "The next suffix is one above the greatest that the id has."
unfoldable pub next_suffix : Option ℤ → ℤ
next_suffix none = pos 0
next_suffix (some greatest) = greatest +ℤ pos 1
