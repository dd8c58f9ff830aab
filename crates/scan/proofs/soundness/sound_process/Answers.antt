-- The tests one after the other: each step is true where those so far hold.
use Rattle.std.proofs.Common.{◌≡◌, ◌&&◌, rules, refl}
use Rattle.rules.specs.Figures.{valid_id, valid_suffix, valid_account, valid_series}
use Rattle.rules.specs.ProcessRows.{valid_approval, valid_stage, sound_process}
use Rattle.scan.proofs.soundness.sound_process.Goals as goal
use Rattle.scan.proofs.soundness.sound_process.Goals.{then-valid_id, else-valid_id, then-valid_id-2, else-valid_id-2, then-valid_suffix, else-valid_suffix, then-valid_account, else-valid_account, then-valid_account-2, else-valid_account-2, then-valid_series, else-valid_series, then-valid_approval, else-valid_approval}

pub returns-then-valid_approval-2 : goal.returns-then-valid_approval-2
unfolding sound_process
returns-then-valid_approval-2 c =
    let r = c.args.r in
    let e1 : c.if-valid_id.value ≡ (valid_id r.process && valid_id r.id) = elim c.if-valid_id.branch [ then-valid_id w ↦ search rules | else-valid_id w ↦ search rules ] in
    let e2 : c.if-valid_id-2.value ≡ (c.if-valid_id.value && valid_suffix r.suffix) = elim c.if-valid_id-2.branch [ then-valid_id-2 w ↦ search rules | else-valid_id-2 w ↦ search rules ] in
    let e3 : c.if-valid_suffix.value ≡ (c.if-valid_id-2.value && valid_account r.giving) = elim c.if-valid_suffix.branch [ then-valid_suffix w ↦ search rules | else-valid_suffix w ↦ search rules ] in
    let e4 : c.if-valid_account.value ≡ (c.if-valid_suffix.value && valid_account r.taking) = elim c.if-valid_account.branch [ then-valid_account w ↦ search rules | else-valid_account w ↦ search rules ] in
    let e5 : c.if-valid_account-2.value ≡ (c.if-valid_account.value && valid_series r.series) = elim c.if-valid_account-2.branch [ then-valid_account-2 w ↦ search rules | else-valid_account-2 w ↦ search rules ] in
    let e6 : c.if-valid_series.value ≡ (c.if-valid_account-2.value && valid_approval r.giver) = elim c.if-valid_series.branch [ then-valid_series w ↦ search rules | else-valid_series w ↦ search rules ] in
    let e7 : c.if-valid_approval.value ≡ (c.if-valid_series.value && valid_approval r.taker) = elim c.if-valid_approval.branch [ then-valid_approval w ↦ search rules | else-valid_approval w ↦ search rules ] in
    let all : c.if-valid_approval.value ≡ (valid_id r.process && valid_id r.id && valid_suffix r.suffix && valid_account r.giving && valid_account r.taking && valid_series r.series && valid_approval r.giver && valid_approval r.taker) = simp (e7, e6, e5, e4, e3, e2, e1) in
    let end : c.valid_stage.result ≡ (valid_id r.process && valid_id r.id && valid_suffix r.suffix && valid_account r.giving && valid_account r.taking && valid_series r.series && valid_approval r.giver && valid_approval r.taker && valid_stage r.stage) = rw (← all, c.if-valid_approval-2.true) (search rules) in
    end

pub returns-else-valid_approval-2 : goal.returns-else-valid_approval-2
unfolding sound_process
returns-else-valid_approval-2 c =
    let r = c.args.r in
    let e1 : c.if-valid_id.value ≡ (valid_id r.process && valid_id r.id) = elim c.if-valid_id.branch [ then-valid_id w ↦ search rules | else-valid_id w ↦ search rules ] in
    let e2 : c.if-valid_id-2.value ≡ (c.if-valid_id.value && valid_suffix r.suffix) = elim c.if-valid_id-2.branch [ then-valid_id-2 w ↦ search rules | else-valid_id-2 w ↦ search rules ] in
    let e3 : c.if-valid_suffix.value ≡ (c.if-valid_id-2.value && valid_account r.giving) = elim c.if-valid_suffix.branch [ then-valid_suffix w ↦ search rules | else-valid_suffix w ↦ search rules ] in
    let e4 : c.if-valid_account.value ≡ (c.if-valid_suffix.value && valid_account r.taking) = elim c.if-valid_account.branch [ then-valid_account w ↦ search rules | else-valid_account w ↦ search rules ] in
    let e5 : c.if-valid_account-2.value ≡ (c.if-valid_account.value && valid_series r.series) = elim c.if-valid_account-2.branch [ then-valid_account-2 w ↦ search rules | else-valid_account-2 w ↦ search rules ] in
    let e6 : c.if-valid_series.value ≡ (c.if-valid_account-2.value && valid_approval r.giver) = elim c.if-valid_series.branch [ then-valid_series w ↦ search rules | else-valid_series w ↦ search rules ] in
    let e7 : c.if-valid_approval.value ≡ (c.if-valid_series.value && valid_approval r.taker) = elim c.if-valid_approval.branch [ then-valid_approval w ↦ search rules | else-valid_approval w ↦ search rules ] in
    let all : c.if-valid_approval.value ≡ (valid_id r.process && valid_id r.id && valid_suffix r.suffix && valid_account r.giving && valid_account r.taking && valid_series r.series && valid_approval r.giver && valid_approval r.taker) = simp (e7, e6, e5, e4, e3, e2, e1) in
    let end : c.if-valid_approval.value ≡ (valid_id r.process && valid_id r.id && valid_suffix r.suffix && valid_account r.giving && valid_account r.taking && valid_series r.series && valid_approval r.giver && valid_approval r.taker && valid_stage r.stage) = rw (← all, c.if-valid_approval-2.false) refl in
    end
