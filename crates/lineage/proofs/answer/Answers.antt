-- `lineage::answer` meets its contract: tests 1, 3 and 5 in their order, then the origin of the suffix. Assumes nothing.
use Rattle.std.proofs.Common.{rules, sym, ◌∙◌, ap, [], FitsSigned, w64}
use Rattle.std.proofs.lemmas.Int.{to_z-of_z}
use Rattle.std.proofs.lemmas.Result.{err_from_is_err_and}
use Rattle.rules.specs.Handle.{Answer}
use Rattle.rules.specs.Request as Request
use Rattle.cells.proofs.SoundCells.{record-rows-sound}
use Rattle.verdict.proofs.Handled.{unsound-records}
use Rattle.verdict.proofs.LineageAnswer.{lineage-refused-id, lineage-refused-suffix, lineage-refused-missing, lineage-answered}
use Rattle.lineage.proofs.Steps.{lacks-original, has-original}
use Rattle.lineage.proofs.answer.Goals.{then-not-valid_id-via-then-not-valid_id, then-not-valid_id-via-else-not-valid_id+then-not-valid_suffix}
use Rattle.lineage.proofs.answer.Goals as goal

pub returns-then-not-records_sound : goal.returns-then-not-records_sound
returns-then-not-records_sound c =
    let a = c.args in
    rw c.into.ensures (sym (ap (λ (x : Answer). x.reply) (unsound-records a.records.now [] (Request.lineage a.id a.suffix) (sym c.records_sound.ensures ∙ c.if-not-records_sound.true))))

pub returns-then-not-valid_id : goal.returns-then-not-valid_id
returns-then-not-valid_id c =
    let a = c.args in
    let id-fits : FitsSigned w64 a.id = c.ranges.id in
    let suffix-fits : FitsSigned w64 a.suffix = c.ranges.suffix in
    let sound = sym c.records_sound.ensures ∙ c.if-not-records_sound.false in
    rw c.into-then-not-valid_id.ensures (elim c.then-not-valid_id.branch [
      | then-not-valid_id-via-then-not-valid_id w ↦
          sym (ap (λ (x : Answer). x.reply) (lineage-refused-id a.records.now [] a.id a.suffix sound (simp to_z-of_z at (sym c.valid_id.ensures ∙ w.if-not-valid_id.true))))
      | then-not-valid_id-via-else-not-valid_id+then-not-valid_suffix w ↦
          let id-valid = simp to_z-of_z at (sym c.valid_id.ensures ∙ w.if-not-valid_id.false) in
          sym (ap (λ (x : Answer). x.reply) (lineage-refused-suffix a.records.now [] a.id a.suffix sound id-valid (simp to_z-of_z at (sym w.valid_suffix.ensures ∙ w.if-not-valid_suffix.true))))
    ])

pub origin-requires : goal.origin-requires
origin-requires c = (record-rows-sound c.args.records.now (sym c.records_sound.ensures ∙ c.if-not-records_sound.false), sym c.valid_suffix.ensures ∙ c.if-not-valid_suffix.false)

pub returns-in_err-price : goal.returns-in_err-price
returns-in_err-price c =
    let a = c.args in
    let id-fits : FitsSigned w64 a.id = c.ranges.id in
    let suffix-fits : FitsSigned w64 a.suffix = c.ranges.suffix in
    let sound = sym c.records_sound.ensures ∙ c.if-not-records_sound.false in
    let id-valid = simp to_z-of_z at (sym c.valid_id.ensures ∙ c.if-not-valid_id.false) in
    let suffix-valid = simp to_z-of_z at (sym c.valid_suffix.ensures ∙ c.if-not-valid_suffix.false) in
    let lacks = lacks-original c.origin.result _ _ (sym c.ok_or.ensures.value ∙ c.in_err-price.was) in
    let p = err_from_is_err_and c.from_residual.result c.from_residual.ensures.1 in
    rw (p.1, p.2, lacks.1) (sym (ap (λ (x : Answer). x.reply) (lineage-refused-missing a.records.now [] a.id a.suffix sound id-valid suffix-valid (sym (simp to_z-of_z at c.origin.ensures) ∙ lacks.0))))

pub returns : goal.returns
returns c =
    let a = c.args in
    let id-fits : FitsSigned w64 a.id = c.ranges.id in
    let suffix-fits : FitsSigned w64 a.suffix = c.ranges.suffix in
    let found = c.in_ok-price.field-0 in
    let price-fits : FitsSigned w64 found.price = search rules in
    let links-fit : FitsSigned w64 found.links = search rules in
    let sound = sym c.records_sound.ensures ∙ c.if-not-records_sound.false in
    let id-valid = simp to_z-of_z at (sym c.valid_id.ensures ∙ c.if-not-valid_id.false) in
    let suffix-valid = simp to_z-of_z at (sym c.valid_suffix.ensures ∙ c.if-not-valid_suffix.false) in
    let has = has-original c.origin.result _ found (sym c.ok_or.ensures.value ∙ c.in_ok-price.was) in
    simp to_z-of_z (sym (ap (λ (x : Answer). x.reply) (lineage-answered a.records.now [] a.id a.suffix sound id-valid suffix-valid _ (sym (simp to_z-of_z at c.origin.ensures) ∙ has))))
