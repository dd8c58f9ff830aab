-- The tests one after the other: each step is true where those so far hold.
use Rattle.std.proofs.Common.{◌≡◌, ◌&&◌, pos, rules, refl}
use Rattle.integers.specs.Order.{in_range}
use Rattle.rules.specs.Figures.{magnitude_at_most}
use Rattle.rules.specs.Rows.{valid_total, sound_position}
use Rattle.scan.proofs.soundness.sound_position.Goals as goal
use Rattle.scan.proofs.soundness.sound_position.Goals.{then-in_range, else-in_range, then-in_range-2, else-in_range-2, then-in_range-3, else-in_range-3}

pub returns-then-valid_total : goal.returns-then-valid_total
unfolding sound_position magnitude_at_most
returns-then-valid_total c =
    let p = c.args.p in
    let e1 : c.if-in_range.value ≡ (in_range (pos 0) (pos 1000000000000) p.long && in_range (pos 0) (pos 1000000000000) p.short) = elim c.if-in_range.branch [ then-in_range w ↦ search rules | else-in_range w ↦ search rules ] in
    let e2 : c.if-in_range-2.value ≡ (c.if-in_range.value && magnitude_at_most 1000000000000000 p.cash) = elim c.if-in_range-2.branch [ then-in_range-2 w ↦ search rules | else-in_range-2 w ↦ search rules ] in
    let e3 : c.if-in_range-3.value ≡ (c.if-in_range-2.value && valid_total p.quantity) = elim c.if-in_range-3.branch [ then-in_range-3 w ↦ search rules | else-in_range-3 w ↦ search rules ] in
    let all : c.if-in_range-3.value ≡ (in_range (pos 0) (pos 1000000000000) p.long && in_range (pos 0) (pos 1000000000000) p.short && magnitude_at_most 1000000000000000 p.cash && valid_total p.quantity) = simp (e3, e2, e1) in
    let end : c.valid_total-then-valid_total.result ≡ (in_range (pos 0) (pos 1000000000000) p.long && in_range (pos 0) (pos 1000000000000) p.short && magnitude_at_most 1000000000000000 p.cash && valid_total p.quantity && valid_total p.value) = rw (← all, c.if-valid_total.true) (search rules) in
    end

pub returns-else-valid_total : goal.returns-else-valid_total
unfolding sound_position magnitude_at_most
returns-else-valid_total c =
    let p = c.args.p in
    let e1 : c.if-in_range.value ≡ (in_range (pos 0) (pos 1000000000000) p.long && in_range (pos 0) (pos 1000000000000) p.short) = elim c.if-in_range.branch [ then-in_range w ↦ search rules | else-in_range w ↦ search rules ] in
    let e2 : c.if-in_range-2.value ≡ (c.if-in_range.value && magnitude_at_most 1000000000000000 p.cash) = elim c.if-in_range-2.branch [ then-in_range-2 w ↦ search rules | else-in_range-2 w ↦ search rules ] in
    let e3 : c.if-in_range-3.value ≡ (c.if-in_range-2.value && valid_total p.quantity) = elim c.if-in_range-3.branch [ then-in_range-3 w ↦ search rules | else-in_range-3 w ↦ search rules ] in
    let all : c.if-in_range-3.value ≡ (in_range (pos 0) (pos 1000000000000) p.long && in_range (pos 0) (pos 1000000000000) p.short && magnitude_at_most 1000000000000000 p.cash && valid_total p.quantity) = simp (e3, e2, e1) in
    let end : c.if-in_range-3.value ≡ (in_range (pos 0) (pos 1000000000000) p.long && in_range (pos 0) (pos 1000000000000) p.short && magnitude_at_most 1000000000000000 p.cash && valid_total p.quantity && valid_total p.value) = rw (← all, c.if-valid_total.false) refl in
    end
