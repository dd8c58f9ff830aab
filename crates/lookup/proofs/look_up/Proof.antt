-- `lookup::look_up` meets its contract: the row before the end of the id's rows has its greatest suffix, or the id has none; and the key is searched among the rows
-- up to there. The row at the end has another id, as its second figure was read and so is an i64. Assumes nothing.
use Prim.Native.Nat.{ℕ, suc, ◌+◌, ◌-◌, ◌*◌, ◌≤◌, ◌<◌}
use mathlib.Core.Path.{◌≡◌, sym, ap, subst, ◌∙◌}
use native.Mathlib.Omega.{arith}
use borrow.Author.Rules.{rules, sfits_of}
use lib.IntN.{ℤ, pos}
use lib.ListN.{length, get_or}
use mir.Facts.{to_z-of_z}
use mir.Syntax.{w64}
use mir.Val.{SFits, of_z}
use Rattle.integers.proofs.Bits.{of_z-inj}
use Rattle.rules.specs.Rows.{key_of}
use Rattle.lookup.specs.Lookup.{row_place, row_found}
use Rattle.lookup.specs.Found.{found_told}
use Rattle.lookup.specs.Greatest.{Suffix, Nothing}
use Rattle.lookup.specs.Sought as Sought
use Rattle.lookup.proofs.Halving.{row_within, place-at-most}
use Rattle.lookup.proofs.RowBefore.{last_key}
use Rattle.lookup.proofs.LookedUp.{front-searchable, said-first, said-nothing, said-present, said-absent}
use Rattle.lookup.proofs.look_up.Statement.{statement}
use Rattle.lookup.proofs.look_up.Lts.{then-end-count, else-end-count}
use Rattle.lookup.proofs.look_up.Tie as tie

-- Where the rows of the first figure sought end.
abbrev end_of : tie.Start → ℕ
end_of s = row_place s.args.header s.args.width (last_key s.args.major) s.args.count s.args.cells.now

placed : (c : tie.After-place_of-end) → c.place_of-end.result ≡ end_of c.before
placed c = simp (to_z-of_z c.ranges.major) at c.place_of-end.ensures

row_in : (s : tie.Start) (row : ℕ) → row < s.args.count → s.args.header + row * s.args.width + 1 < length s.args.cells.now
row_in s row h = row_within s.args.header s.args.width s.args.count s.args.cells.now s.requires row h

-- The row at the end.
at-end : (c : tie.Then-end-count) → c.args.header + c.place_of-end.result * c.args.width + 1 < length c.args.cells.now
at-end c = row_in c.before.before c.place_of-end.result c.if-end-count.true

read : (c : tie.Joined-end-count) → end_of c.before.before < c.args.count
    → SFits w64 (get_or c.args.cells.now (c.args.header + end_of c.before.before * c.args.width + 1) (pos 0))
read c h =
    elim c.if-end-count.branch [
      | then-end-count w ↦
          (let f : SFits w64 (get_or c.args.cells.now (c.args.header + c.place_of-end.result * c.args.width + 1) (pos 0)) = sfits_of w.second-1.given in
          subst (λ (p : ℕ). SFits w64 (get_or c.args.cells.now (c.args.header + p * c.args.width + 1) (pos 0))) (placed c.before) f)
      | else-end-count w ↦ absurd (omega (arith, placed c.before, w.if-end-count.false))
    ]

returns : tie.Need-returns-then-end-eq0
returns c =
    let s : tie.Start = c.before.before.before in
    let p : tie.After-place_of-end = c.before.before in
    ap (λ (n : ℕ). Sought.Absent n Nothing) (sym c.if-end-eq0.true ∙ placed p)
    ∙ sym (said-first s.args.cells.now s.args.header s.args.width s.args.count s.requires s.args.major s.args.minor (read c.before) (sym (placed p) ∙ c.if-end-eq0.true))

-- The last row before the end.
module _ (c : tie.Else-end-eq0) where
  abbrev start : tie.Start
  start = c.before.before.before

  abbrev row : ℕ
  row = c.place_of-end.result - 1

  row_before : end_of start ≡ suc row
  row_before = omega (arith, placed c.before.before)

  end-within : c.place_of-end.result ≤ start.args.count
  end-within = omega (arith, placed c.before.before, place-at-most start.args.cells.now start.args.header start.args.width start.args.count (last_key start.args.major))

  within : start.args.header + row * start.args.width + 1 < length start.args.cells.now
  within = row_in start row (omega (arith, row_before, end-within))

  abbrev first : ℤ
  first = get_or start.args.cells.now (start.args.header + row * start.args.width) (pos 0)

  abbrev second : ℤ
  second = get_or start.args.cells.now (start.args.header + row * start.args.width + 1) (pos 0)

first_fits : (c : tie.After-first-1) → SFits w64 (first c.before.before)
first_fits c = sfits_of c.first-1.given

returns-2 : tie.Need-returns-then-first-major
returns-2 c =
    let e : tie.Else-end-eq0 = c.before.before.before in
    let s : tie.Start = start e in
    ap (λ (n : ℕ). Sought.Absent n Nothing) (placed e.before.before)
    ∙ sym (said-nothing s.args.cells.now s.args.header s.args.width s.args.count s.requires s.args.major s.args.minor (read e.before) (row e) (row_before e)
    (λ same. c.if-first-major.true (ap (of_z w64) same)))

-- The row with the key among the rows up to the end.
module _ (c : tie.After-find_by_distance) where
  abbrev there : tie.Else-end-eq0
  there = c.before.before.before.before

  abbrev s : tie.Start
  s = start there

  own : first there ≡ s.args.major
  own = of_z-inj (first_fits c.before.before) s.ranges.major c.if-first-major.false

  greatest-fits : SFits w64 (second there)
  greatest-fits = sfits_of c.greatest-1.given

  found : found_told c.find_by_distance.result ≡ row_found s.args.header s.args.width (key_of s.args.major s.args.minor) (end_of s) s.args.cells.now
  found =
      (simp (to_z-of_z s.ranges.major, to_z-of_z s.ranges.minor) at c.find_by_distance.ensures)
      ∙ ap (λ (n : ℕ). row_found s.args.header s.args.width (key_of s.args.major s.args.minor) n s.args.cells.now) (placed there.before.before)

find-by-distance-requires : tie.Need-find_by_distance-requires
find-by-distance-requires c κs =
    let e : tie.Else-end-eq0 = c.before.before.before in
    let s : tie.Start = start e in
    (front-searchable s.args.header s.args.width s.args.count e.place_of-end.result s.args.cells.now (end-within e) s.requires, omega (arith, row_before e, placed e.before.before))

returns-3 : tie.Need-returns-in-Ok
returns-3 c =
    let f : tie.After-find_by_distance = c.before in
    let e : tie.Else-end-eq0 = there f in
    let s : tie.Start = s f in
    let i : ℕ = c.in-Ok.row in
    ap (λ (g : ℤ). Sought.Present i g e.place_of-end.result) (to_z-of_z (greatest-fits f))
    ∙ ap (Sought.Present i (second e)) (placed e.before.before)
    ∙ sym (said-present s.args.cells.now s.args.header s.args.width s.args.count s.requires s.args.major s.args.minor (read e.before) (row e) (row_before e) (own f)
    i (ap found_told (sym c.in-Ok.is) ∙ found f))

returns-4 : tie.Need-returns-in-Err
returns-4 c =
    let f : tie.After-find_by_distance = c.before in
    let e : tie.Else-end-eq0 = there f in
    let s : tie.Start = s f in
    let place : ℕ = c.in-Err.at in
    ap (λ (g : ℤ). Sought.Absent place (Suffix g)) (to_z-of_z (greatest-fits f))
    ∙ sym (said-absent s.args.cells.now s.args.header s.args.width s.args.count s.requires s.args.major s.args.minor (read e.before) (row e) (row_before e) (own f)
    place (ap found_told (sym c.in-Err.is) ∙ found f))

pub look_up_spec : {M : Type 1} → statement M
look_up_spec =
    tie.close
    (tie.spec
    (λ c κs. search rules)
    (λ c. omega (arith, at-end c))
    (λ c. omega (arith, at-end c))
    (λ c. omega (arith, at-end c))
    (λ c. omega (arith, at-end c))
    (λ c. omega (arith, at-end c))
    returns
    (λ c. search rules)
    (λ c. omega (arith, within c))
    (λ c. omega (arith, within c))
    (λ c. omega (arith, within c))
    (λ c. omega (arith, within c))
    (λ c. omega (arith, within c))
    (λ c. omega (arith, within c.before))
    (λ c. omega (arith, within c.before))
    returns-2
    find-by-distance-requires
    (λ c. search rules)
    (λ c. search rules)
    returns-3
    returns-4)
