-- `book_transfer` meets its contract: the figures as they are read, handed to the request's own call. Assumes nothing.
use Prim.Native.Nat.{ℕ}
use mathlib.Core.Path.{refl}
use borrow.Author.Rules.{rules, sfits_of}
use lib.IntN.{ℤ, pos}
use lib.ListN.{get_or}
use mir.Facts.{to_z-of_z}
use mir.Syntax.{w64}
use mir.Val.{SFits}
use Rattle.rules.specs.Reader.{request_named}
use Rattle.journal_booking.proofs.Booked.{two-booked}
use Rattle.journal_booking.proofs.book_transfer.Statement.{statement}
use Rattle.journal_booking.proofs.book_transfer.Tie as tie

-- Each figure that was read fits 64 bits.
module _ (c : tie.After-series-1) where
  abbrev s : tie.Start
  s = c.before.before.before.before.before

  abbrev figure : ℕ → ℤ
  figure at = get_or s.args.figures.now at (pos 0)

  id-fits : SFits w64 (figure 0)
  id-fits = sfits_of c.id-1.given

  suffix-fits : SFits w64 (figure 1)
  suffix-fits = sfits_of c.suffix-1.given

  from-fits : SFits w64 (figure 2)
  from-fits = sfits_of c.from-1.given

  to-fits : SFits w64 (figure 3)
  to-fits = sfits_of c.to-1.given

  series-fits : SFits w64 (figure 4)
  series-fits = sfits_of c.series-1.given

returns : tie.Need-returns
unfolding request_named
returns c =
    let p : tie.After-series-1 = c.before.before.before.before.before in
    two-booked (s p).requires.1 (simp (to_z-of_z (id-fits p), to_z-of_z (suffix-fits p), to_z-of_z (from-fits p), to_z-of_z (to-fits p), to_z-of_z (series-fits p)) at c.on_sound.ensures) refl

pub book_transfer_spec : {M : Type 1} → statement M
book_transfer_spec =
    tie.close
    (tie.spec
    (λ c. search rules)
    (λ c. search rules)
    (λ c. search rules)
    (λ c. search rules)
    (λ c. search rules)
    (λ c κs. search rules)
    (λ c. search rules)
    (λ c. search rules)
    returns)
