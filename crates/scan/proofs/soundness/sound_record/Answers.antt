-- The tests one after the other: each step is true where those so far hold; the kind may be tested last.
use Rattle.std.proofs.Common.{◌≡◌, ◌&&◌, [], ◌∷◌, rules, refl, sym, ◌∙◌}
use Rattle.rules.specs.Figures.{valid_id, valid_suffix, valid_account, valid_series, valid_side, valid_price}
use Rattle.rules.specs.Rows.{valid_kind, valid_status, valid_signed_quantity, valid_booked, valid_into, valid_parent, sound_record}
use Rattle.rules.specs.declared.Record.{Record}
use Rattle.figures.proofs.Chain.{taken-last}
use Rattle.scan.proofs.soundness.sound_record.Goals as goal
use Rattle.scan.proofs.soundness.sound_record.Goals.{then-valid_id, else-valid_id, then-valid_suffix, else-valid_suffix, then-valid_suffix-2, else-valid_suffix-2, then-valid_status, else-valid_status, then-valid_account, else-valid_account, then-valid_series, else-valid_series, then-valid_side, else-valid_side, then-valid_signed_quantity, else-valid_signed_quantity, then-valid_price, else-valid_price, then-valid_booked, else-valid_booked, then-valid_booked-2, else-valid_booked-2, then-valid_into, else-valid_into}

kind-last : (r : Record) → (valid_id r.id && valid_suffix r.suffix && valid_suffix r.parent && valid_status r.status && valid_account r.account && valid_series r.series && valid_side r.side && valid_signed_quantity r.status r.quantity && valid_price r.price && valid_booked r.long && valid_booked r.short && valid_into r.into && valid_parent r.parent r.suffix && valid_kind r.kind) ≡ sound_record r
unfolding sound_record
kind-last r =
    sym (taken-last (valid_id r.id && valid_suffix r.suffix && valid_suffix r.parent) (valid_kind r.kind) (
    valid_status r.status
    ∷ valid_account r.account
    ∷ valid_series r.series
    ∷ valid_side r.side
    ∷ valid_signed_quantity r.status r.quantity
    ∷ valid_price r.price
    ∷ valid_booked r.long
    ∷ valid_booked r.short
    ∷ valid_into r.into
    ∷ valid_parent r.parent r.suffix
    ∷ []
    ))

pub returns-then-valid_parent : goal.returns-then-valid_parent
unfolding sound_record
returns-then-valid_parent c =
    let r = c.args.r in
    let e1 : c.if-valid_id.value ≡ (valid_id r.id && valid_suffix r.suffix) = elim c.if-valid_id.branch [ then-valid_id w ↦ search rules | else-valid_id w ↦ search rules ] in
    let e2 : c.if-valid_suffix.value ≡ (c.if-valid_id.value && valid_suffix r.parent) = elim c.if-valid_suffix.branch [ then-valid_suffix w ↦ search rules | else-valid_suffix w ↦ search rules ] in
    let e3 : c.if-valid_suffix-2.value ≡ (c.if-valid_suffix.value && valid_status r.status) = elim c.if-valid_suffix-2.branch [ then-valid_suffix-2 w ↦ search rules | else-valid_suffix-2 w ↦ search rules ] in
    let e4 : c.if-valid_status.value ≡ (c.if-valid_suffix-2.value && valid_account r.account) = elim c.if-valid_status.branch [ then-valid_status w ↦ search rules | else-valid_status w ↦ search rules ] in
    let e5 : c.if-valid_account.value ≡ (c.if-valid_status.value && valid_series r.series) = elim c.if-valid_account.branch [ then-valid_account w ↦ search rules | else-valid_account w ↦ search rules ] in
    let e6 : c.if-valid_series.value ≡ (c.if-valid_account.value && valid_side r.side) = elim c.if-valid_series.branch [ then-valid_series w ↦ search rules | else-valid_series w ↦ search rules ] in
    let e7 : c.if-valid_side.value ≡ (c.if-valid_series.value && valid_signed_quantity r.status r.quantity) = elim c.if-valid_side.branch [ then-valid_side w ↦ search rules | else-valid_side w ↦ search rules ] in
    let e8 : c.if-valid_signed_quantity.value ≡ (c.if-valid_side.value && valid_price r.price) = elim c.if-valid_signed_quantity.branch [ then-valid_signed_quantity w ↦ search rules | else-valid_signed_quantity w ↦ search rules ] in
    let e9 : c.if-valid_price.value ≡ (c.if-valid_signed_quantity.value && valid_booked r.long) = elim c.if-valid_price.branch [ then-valid_price w ↦ search rules | else-valid_price w ↦ search rules ] in
    let e10 : c.if-valid_booked.value ≡ (c.if-valid_price.value && valid_booked r.short) = elim c.if-valid_booked.branch [ then-valid_booked w ↦ search rules | else-valid_booked w ↦ search rules ] in
    let e11 : c.if-valid_booked-2.value ≡ (c.if-valid_booked.value && valid_into r.into) = elim c.if-valid_booked-2.branch [ then-valid_booked-2 w ↦ search rules | else-valid_booked-2 w ↦ search rules ] in
    let e12 : c.if-valid_into.value ≡ (c.if-valid_booked-2.value && valid_parent r.parent r.suffix) = elim c.if-valid_into.branch [ then-valid_into w ↦ search rules | else-valid_into w ↦ search rules ] in
    let all : c.if-valid_into.value ≡ (valid_id r.id && valid_suffix r.suffix && valid_suffix r.parent && valid_status r.status && valid_account r.account && valid_series r.series && valid_side r.side && valid_signed_quantity r.status r.quantity && valid_price r.price && valid_booked r.long && valid_booked r.short && valid_into r.into && valid_parent r.parent r.suffix) = simp (e12, e11, e10, e9, e8, e7, e6, e5, e4, e3, e2, e1) in
    let end : c.valid_kind.result ≡ (valid_id r.id && valid_suffix r.suffix && valid_suffix r.parent && valid_status r.status && valid_account r.account && valid_series r.series && valid_side r.side && valid_signed_quantity r.status r.quantity && valid_price r.price && valid_booked r.long && valid_booked r.short && valid_into r.into && valid_parent r.parent r.suffix && valid_kind r.kind) = rw (← all, c.if-valid_parent.true) (search rules) in
    end ∙ kind-last r

pub returns-else-valid_parent : goal.returns-else-valid_parent
unfolding sound_record
returns-else-valid_parent c =
    let r = c.args.r in
    let e1 : c.if-valid_id.value ≡ (valid_id r.id && valid_suffix r.suffix) = elim c.if-valid_id.branch [ then-valid_id w ↦ search rules | else-valid_id w ↦ search rules ] in
    let e2 : c.if-valid_suffix.value ≡ (c.if-valid_id.value && valid_suffix r.parent) = elim c.if-valid_suffix.branch [ then-valid_suffix w ↦ search rules | else-valid_suffix w ↦ search rules ] in
    let e3 : c.if-valid_suffix-2.value ≡ (c.if-valid_suffix.value && valid_status r.status) = elim c.if-valid_suffix-2.branch [ then-valid_suffix-2 w ↦ search rules | else-valid_suffix-2 w ↦ search rules ] in
    let e4 : c.if-valid_status.value ≡ (c.if-valid_suffix-2.value && valid_account r.account) = elim c.if-valid_status.branch [ then-valid_status w ↦ search rules | else-valid_status w ↦ search rules ] in
    let e5 : c.if-valid_account.value ≡ (c.if-valid_status.value && valid_series r.series) = elim c.if-valid_account.branch [ then-valid_account w ↦ search rules | else-valid_account w ↦ search rules ] in
    let e6 : c.if-valid_series.value ≡ (c.if-valid_account.value && valid_side r.side) = elim c.if-valid_series.branch [ then-valid_series w ↦ search rules | else-valid_series w ↦ search rules ] in
    let e7 : c.if-valid_side.value ≡ (c.if-valid_series.value && valid_signed_quantity r.status r.quantity) = elim c.if-valid_side.branch [ then-valid_side w ↦ search rules | else-valid_side w ↦ search rules ] in
    let e8 : c.if-valid_signed_quantity.value ≡ (c.if-valid_side.value && valid_price r.price) = elim c.if-valid_signed_quantity.branch [ then-valid_signed_quantity w ↦ search rules | else-valid_signed_quantity w ↦ search rules ] in
    let e9 : c.if-valid_price.value ≡ (c.if-valid_signed_quantity.value && valid_booked r.long) = elim c.if-valid_price.branch [ then-valid_price w ↦ search rules | else-valid_price w ↦ search rules ] in
    let e10 : c.if-valid_booked.value ≡ (c.if-valid_price.value && valid_booked r.short) = elim c.if-valid_booked.branch [ then-valid_booked w ↦ search rules | else-valid_booked w ↦ search rules ] in
    let e11 : c.if-valid_booked-2.value ≡ (c.if-valid_booked.value && valid_into r.into) = elim c.if-valid_booked-2.branch [ then-valid_booked-2 w ↦ search rules | else-valid_booked-2 w ↦ search rules ] in
    let e12 : c.if-valid_into.value ≡ (c.if-valid_booked-2.value && valid_parent r.parent r.suffix) = elim c.if-valid_into.branch [ then-valid_into w ↦ search rules | else-valid_into w ↦ search rules ] in
    let all : c.if-valid_into.value ≡ (valid_id r.id && valid_suffix r.suffix && valid_suffix r.parent && valid_status r.status && valid_account r.account && valid_series r.series && valid_side r.side && valid_signed_quantity r.status r.quantity && valid_price r.price && valid_booked r.long && valid_booked r.short && valid_into r.into && valid_parent r.parent r.suffix) = simp (e12, e11, e10, e9, e8, e7, e6, e5, e4, e3, e2, e1) in
    let end : c.if-valid_into.value ≡ (valid_id r.id && valid_suffix r.suffix && valid_suffix r.parent && valid_status r.status && valid_account r.account && valid_series r.series && valid_side r.side && valid_signed_quantity r.status r.quantity && valid_price r.price && valid_booked r.long && valid_booked r.short && valid_into r.into && valid_parent r.parent r.suffix && valid_kind r.kind) = rw (← all, c.if-valid_parent.false) refl in
    end ∙ kind-last r
