-- What is opened and undone, by the side, and a closing error where a trade to close closes less than its quantity.
use Rattle.std.proofs.Common.{◌≡◌, true, sym, ap, ◌∙◌, ℤ, pos, ◌-ℤ◌, w64, to_z, of_z, FitsSigned}
use borrow.Author.Rules.{sfits_of}
use mir.Facts.{to_z-of_z}
use Rattle.rules.specs.Figures.{valid_quantity, valid_price, is_buy, is_to_close}
use Rattle.rules.specs.Rows.{in_booked, sound_position}
use Rattle.rules.specs.declared.Position.{Position}
use Rattle.trade.specs.declared.NewTrade.{NewTrade}
use Rattle.rules.specs.Trade.{closed_by, is_closing_error}
use Rattle.scan.proofs.ReadBack.{read_back}
use Rattle.verdict.proofs.Moves.{quantity-magnitude}
use Rattle.trade.proofs.TradeBooked.{error-open, error-close, booking-buy, booking-sell, quantity_fits, price_fits, opened-fits, undone-fits}
use Rattle.trade.proofs.booking_of.Goals.{then-is_to_close, else-is_to_close, then-is_buy, else-is_buy}
use Rattle.trade.proofs.booking_of.Goals as goal

-- What is closed, opened and undone.
module _ (t : NewTrade) (p : Position) (asked : (valid_quantity t.quantity ≡ true) × (sound_position p ≡ true) × (valid_price t.price ≡ true)) where
  abbrev part : ℤ
  part = closed_by t.side t.quantity p

  quantity : to_z w64 (of_z w64 t.quantity) ≡ t.quantity
  quantity = to_z-of_z (quantity_fits t.quantity asked.0)

  price : to_z w64 (of_z w64 t.price) ≡ t.price
  price = to_z-of_z (price_fits t.price asked.2)

  opened : FitsSigned w64 (t.quantity -ℤ part)
  opened = opened-fits t.side t.quantity p asked.0 asked.1

  undone : FitsSigned w64 (pos 0 -ℤ part)
  undone = undone-fits t.side t.quantity p asked.0 asked.1

  closed : {told : ℤ} → FitsSigned w64 told → told ≡ part → to_z w64 (of_z w64 told) ≡ part
  closed f e = to_z-of_z f ∙ e

pub overflow_sub-opened : goal.overflow_sub-opened
overflow_sub-opened c =
    let t = c.args.t in
    simp (closed t c.args.p c.requires (sfits_of c.closed_by-closed.type_inv) c.closed_by-closed.ensures, quantity t c.args.p c.requires) (opened t c.args.p c.requires)

pub overflow_sub-undone : goal.overflow_sub-undone
overflow_sub-undone c =
    simp (closed c.args.t c.args.p c.requires (sfits_of c.closed_by-closed.type_inv) c.closed_by-closed.ensures) (undone c.args.t c.args.p c.requires)

pub in_booked-movement-requires : goal.in_booked-movement-requires
in_booked-movement-requires c =
    let t = c.args.t in
    simp (quantity t c.args.p c.requires, price t c.args.p c.requires) (quantity-magnitude t.quantity c.requires.0, c.requires.2)

-- Whether there is a closing error, and the movement, by the side.
module _ (c : goal.After-in_booked-movement) where
  abbrev t : NewTrade
  t = c.args.t

  abbrev p : Position
  p = c.args.p

  part-is : to_z w64 (of_z w64 c.closed_by-closed.result) ≡ part t p c.requires
  part-is = closed t p c.requires (sfits_of c.closed_by-closed.type_inv) c.closed_by-closed.ensures

  side : to_z w64 (of_z w64 t.side) ≡ t.side
  side = read_back t.side c.struct_told-1.given.1.1.1.0.1

  to-close : c.is_to_close.result ≡ is_to_close t.side
  to-close = simp side at c.is_to_close.ensures

  error : c.if-is_to_close.error ≡ is_closing_error t.side t.quantity (part t p c.requires)
  error =
      elim c.if-is_to_close.branch [
        | then-is_to_close w ↦ w.error-is ∙ simp (part-is, quantity t p c.requires) (error-close t.side t.quantity p (sym to-close ∙ w.if-is_to_close.true))
        | else-is_to_close w ↦ w.error-is ∙ w.if-is_to_close.false ∙ error-open t.side t.quantity p (sym to-close ∙ w.if-is_to_close.false)
      ]

  buys : c.is_buy.result ≡ is_buy t.side
  buys = simp side at c.is_buy.ensures

  movement : {long short : ℤ} → FitsSigned w64 long → FitsSigned w64 short → c.if-is_buy.long ≡ (long, short)
      → c.in_booked-movement.result ≡ in_booked t.side t.quantity t.price long short
  movement f g e =
      (simp (side, quantity t p c.requires, price t p c.requires) at c.in_booked-movement.ensures)
      ∙ ap (λ (w : ℤ × ℤ). in_booked t.side t.quantity t.price (to_z w64 (of_z w64 w.0)) (to_z w64 (of_z w64 w.1))) e
      ∙ (λ i. in_booked t.side t.quantity t.price (to_z-of_z f i) (to_z-of_z g i))

pub returns : goal.returns
returns c =
    let t = c.args.t in
    let p = c.args.p in
    let o : FitsSigned w64 (t.quantity -ℤ closed_by t.side t.quantity p) = opened t p c.requires in
    let u : FitsSigned w64 (pos 0 -ℤ closed_by t.side t.quantity p) = undone t p c.requires in
    elim c.if-is_buy.branch [
      | then-is_buy w ↦
          simp (part-is c, movement c o u (simp (to_z-of_z o, to_z-of_z u) at (simp (part-is c, quantity t p c.requires) at w.long-is)))
          (booking-buy t.side t.quantity p t.price c.if-is_to_close.error (error c) (sym (buys c) ∙ w.if-is_buy.true))
      | else-is_buy w ↦
          simp (part-is c, movement c u o (simp (to_z-of_z o, to_z-of_z u) at (simp (part-is c, quantity t p c.requires) at w.long-is)))
          (booking-sell t.side t.quantity p t.price c.if-is_to_close.error (error c) (sym (buys c) ∙ w.if-is_buy.false))
    ]
