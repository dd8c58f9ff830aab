-- From a line that was read to its request: a bad line, one whose figures fail test 3, and one that names a request. Assumes nothing.
use Prim.Native.Nat.{ℕ}
use mathlib.Core.Path.{◌≡◌, sym, ◌∙◌, ap}
use mathlib.Core.Bool.{Bool, true, false, cond}
use mathlib.Core.List.{List}
use mathlib.Core.Option.{none, some}
use lib.IntN.{ℤ}
use lib.ListN.{take, drop}
use Rattle.text.specs.Scan.{taken}
use Rattle.rules.specs.Reader.{request_named, is_valid_line, request_from, take_request}
use Rattle.reader.specs.Read.{LineReadAs}
use Rattle.std.specs.Prelude.{Some, None}
use Rattle.std.specs.Bool.{then_some}
use Rattle.reader.specs.declared.LineRead.{LineRead}
use Rattle.journal_reading.specs.RequestRead.{RequestReadAs}

module _ (text : List ℕ) (at : ℕ) (figures : List ℤ) where
  pub bad-line : LineReadAs text at figures None → RequestReadAs text at figures None
  unfolding take_request request_from
  bad-line w = record { request = ap request_from w.line; within = tt; cells = w.cells }

  module _ (l : LineRead) (w : LineReadAs text at figures (Some l)) where
    -- What the line's validity makes of it.
    judged : (valid : Bool) → is_valid_line l.heading (take l.count figures) ≡ valid →
        cond valid (some (taken (request_named l.heading (take l.count figures)) (drop l.next text))) none ≡ take_request (drop at text)
    unfolding take_request request_from
    judged valid e =
        sym (ap (λ (b : Bool). cond b (some (taken (request_named l.heading (take l.count figures)) (drop l.next text))) none) e) ∙ ap request_from w.line

    pub by-validity : (valid : Bool) → valid ≡ is_valid_line l.heading (take l.count figures) → RequestReadAs text at figures (then_some valid l)
    by-validity true e = record { request = judged true (sym e); within = (sym e, w.within.0, w.within.1); cells = w.cells }
    by-validity false e = record { request = judged false (sym e); within = tt; cells = w.cells }
