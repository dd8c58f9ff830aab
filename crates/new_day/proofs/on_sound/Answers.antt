-- `new_day::on_sound` meets its contract: the range and the current day, then cell 1, which is there in a sound table. Assumes nothing.
use Rattle.std.proofs.Common.{rules, ◌≡◌, sym, ◌∙◌, true, false, ℤ, FitsSigned, w64}
use Rattle.std.proofs.lemmas.Int.{to_z-of_z}
use Rattle.std.specs.Int.Signed.{lt_z}
use Rattle.integers.proofs.Linear.{zarith}
use Rattle.rules.specs.Tables.{current_day}
use Rattle.new_day.proofs.DayMoved.{headed, day-set, out_of_range, not-later, later}
use Rattle.new_day.proofs.on_sound.Goals.{then-not-valid_day-via-then-not-valid_day, then-not-valid_day-via-else-not-valid_day+then-day-today}
use Rattle.new_day.proofs.on_sound.Goals as goal

pub returns-then-not-valid_day : goal.returns-then-not-valid_day
returns-then-not-valid_day c =
    let rs = c.args.records.now in
    let day : ℤ = c.args.day in
    let day-fits : FitsSigned w64 day = c.ranges.day in
    let today-fits : FitsSigned w64 (current_day rs) = search rules in
    rw c.into.ensures (elim c.then-not-valid_day.branch [
      | then-not-valid_day-via-then-not-valid_day w ↦ out_of_range rs day c.requires (simp to_z-of_z at (sym c.valid_day.ensures ∙ w.if-not-valid_day.true))
      | then-not-valid_day-via-else-not-valid_day+then-day-today w ↦
          let h : lt_z (current_day rs) day ≡ false = omega (zarith, simp to_z-of_z at w.if-day-today.true) in
          not-later rs day c.requires (simp to_z-of_z at (sym c.valid_day.ensures ∙ w.if-not-valid_day.false)) h
    ])

pub returns : goal.returns
returns c =
    let rs = c.args.records.now in
    let day : ℤ = c.args.day in
    let day-fits : FitsSigned w64 day = c.ranges.day in
    let today-fits : FitsSigned w64 (current_day rs) = search rules in
    let h : lt_z (current_day rs) day ≡ true = omega (zarith, simp to_z-of_z at c.if-day-today.false) in
    later rs day c.requires (simp to_z-of_z at (sym c.valid_day.ensures ∙ c.if-not-valid_day.false)) h _
    (simp to_z-of_z (day-set day rs (headed rs c.requires)))
