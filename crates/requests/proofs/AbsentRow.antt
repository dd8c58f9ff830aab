-- What the lookup of a position found says whether its row is absent. Assumes nothing.
use mathlib.Core.Path.{◌≡◌, sym, ap}
use mathlib.Core.Bool.{cond}
use mathlib.Core.List.{List}
use mathlib.Core.Option.{Option}
use lib.IntN.{ℤ}
use Rattle.rules.specs.Keyed.{is_some}
use Rattle.rules.specs.declared.Position.{Position}
use Rattle.lookup.specs.Lookup.{position_found}
use Rattle.lookup.specs.Found.{found_told}
use Rattle.std.specs.Prelude.{ℕ, Result, Ok, Err}
use Rattle.lookup.proofs.TableLookup.{position-found, position_absent}
use Rattle.verdict.specs.Verdict.{absent_position}
use Rattle.requests.specs.AbsentRow.{absent_row}

pub absent-is : (cells : List ℤ) (account series : ℤ) (found : Result ℕ ℕ) → found_told found ≡ position_found cells account series → absent_row found ≡ absent_position cells account series
unfolding absent_row absent_position is_some
absent-is cells account series (Ok row) e = ap (λ (o : Option Position). cond (is_some o) 0 1) (sym (position-found cells account series row (sym e)).1)
absent-is cells account series (Err place) e = ap (λ (o : Option Position). cond (is_some o) 0 1) (sym (position_absent cells account series place (sym e)))
