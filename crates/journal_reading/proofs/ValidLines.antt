-- Whether a line is valid, by its two tests: with other than its figures it is not, and with them the request's test 3 decides. Assumes nothing.
use Prim.Native.Nat.{ℕ, ◌-◌}
use native.Mathlib.Omega.{arith}
use mathlib.Core.Path.{◌≡◌, sym, ap}
use mathlib.Core.Bool.{Bool, true, ◌&&◌}
use mathlib.Core.List.{List}
use lib.IntN.{ℤ}
use lib.ListN.{length, take, drop, length-drop}
use lib.Seq.{take_all}
use Rattle.rules.specs.Line.{passes_test3}
use Rattle.rules.specs.Reader.{has_its_figures, request_named, is_valid_line}
use Rattle.rules.specs.declared.Heading.{Heading}

pub counted : (heading : Heading) (figures : List ℤ) → has_its_figures heading (length figures) ≡ true → passes_test3 (request_named heading figures) ≡ is_valid_line heading figures
unfolding is_valid_line
counted heading figures h = sym (ap (λ (b : Bool). b && passes_test3 (request_named heading figures)) h)

-- The figures from one on, as the code lends them.
pub figures-from : (n : ℕ) (figures : List ℤ) → take (length figures - n) (drop n figures) ≡ drop n figures
figures-from n figures = take_all (length figures - n) (drop n figures) (omega (arith, length-drop n figures))
