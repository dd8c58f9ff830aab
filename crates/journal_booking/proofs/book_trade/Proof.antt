-- `book_trade` meets its contract: the figures as they are read, handed to the request's own call. Assumes nothing.
use Prim.Native.Nat.{ℕ}
use mathlib.Core.Path.{refl}
use borrow.Author.Rules.{rules, sfits_of}
use lib.IntN.{ℤ, pos}
use lib.ListN.{get_or}
use mir.Facts.{to_z-of_z}
use mir.Syntax.{w64}
use mir.Val.{SFits}
use Rattle.rules.specs.Reader.{request_named}
use Rattle.journal_booking.proofs.Booked.{two-booked}
use Rattle.journal_booking.proofs.book_trade.Statement.{statement}
use Rattle.journal_booking.proofs.book_trade.Tie as tie

-- Each figure that was read fits 64 bits.
module _ (c : tie.After-price-1) where
  abbrev s : tie.Start
  s = c.before.before.before.before.before.before

  abbrev figure : ℕ → ℤ
  figure at = get_or s.args.figures.now at (pos 0)

  id-fits : SFits w64 (figure 0)
  id-fits = sfits_of c.id-1.given

  account-fits : SFits w64 (figure 1)
  account-fits = sfits_of c.account-1.given

  series-fits : SFits w64 (figure 2)
  series-fits = sfits_of c.series-1.given

  side-fits : SFits w64 (figure 3)
  side-fits = sfits_of c.side-1.given

  quantity-fits : SFits w64 (figure 4)
  quantity-fits = sfits_of c.quantity-1.given

  price-fits : SFits w64 (figure 5)
  price-fits = sfits_of c.price-1.given

returns : tie.Need-returns
unfolding request_named
returns c =
    let p : tie.After-price-1 = c.before.before.before.before.before in
    two-booked (s p).requires.1 (simp (to_z-of_z (id-fits p), to_z-of_z (account-fits p), to_z-of_z (series-fits p), to_z-of_z (side-fits p), to_z-of_z (quantity-fits p), to_z-of_z (price-fits p)) at c.on_sound.ensures) refl

pub book_trade_spec : {M : Type 1} → statement M
book_trade_spec =
    tie.close
    (tie.spec
    (λ c. search rules)
    (λ c. search rules)
    (λ c. search rules)
    (λ c. search rules)
    (λ c. search rules)
    (λ c. search rules)
    (λ c κs. search rules)
    (λ c. search rules)
    (λ c. search rules)
    returns)
