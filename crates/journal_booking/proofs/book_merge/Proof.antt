-- `book_merge` meets its contract: the figures as they are read, and the list after them, handed to the request's own call. Assumes nothing.
use Prim.Native.Nat.{ℕ, ◌-◌}
use mathlib.Core.Path.{refl, subst}
use mathlib.Core.List.{List}
use borrow.Author.Rules.{rules, sfits_of}
use lib.IntN.{ℤ, pos}
use lib.ListN.{length, get_or, take, drop}
use mir.Facts.{to_z-of_z}
use mir.Syntax.{w64}
use mir.Val.{SFits}
use Rattle.rules.specs.Request.{merge}
use Rattle.rules.specs.Reasons.{answer_of}
use Rattle.rules.specs.Reader.{request_named}
use Rattle.rules.specs.Handle.{answered}
use Rattle.verdict.specs.HandledSoundly.{HandledSoundly}
use Rattle.journal_reading.proofs.ValidLines.{figures-from}
use Rattle.journal_booking.proofs.Booked.{two-booked}
use Rattle.journal_booking.proofs.book_merge.Statement.{statement}
use Rattle.journal_booking.proofs.book_merge.Tie as tie

-- Each figure that was read fits 64 bits.
module _ (c : tie.After-series-1) where
  abbrev s : tie.Start
  s = c.before.before.before

  abbrev figures : List ℤ
  figures = s.args.figures.now

  abbrev figure : ℕ → ℤ
  figure at = get_or figures at (pos 0)

  id-fits : SFits w64 (figure 0)
  id-fits = sfits_of c.id-1.given

  account-fits : SFits w64 (figure 1)
  account-fits = sfits_of c.account-1.given

  series-fits : SFits w64 (figure 2)
  series-fits = sfits_of c.series-1.given

module _ (c : tie.After-on_sound) where
  abbrev p : tie.After-series-1
  p = c.before.before.before.before

  -- What the request's own call promises, of this list.
  abbrev Handled : List ℤ → Type 0
  Handled rest =
      HandledSoundly (s p).args.records.now (s p).args.positions.now (merge (figure p 0) (figure p 1) (figure p 2) rest) (answered (answer_of c.on_sound.result) c.on_sound.new.records c.on_sound.new.positions)

  lent : Handled (take (length (figures p) - 3) (drop 3 (figures p)))
  lent = simp (to_z-of_z (id-fits p), to_z-of_z (account-fits p), to_z-of_z (series-fits p)) at c.on_sound.ensures

  handled : Handled (drop 3 (figures p))
  handled = subst Handled (figures-from 3 (figures p)) lent

returns : tie.Need-returns
unfolding request_named
returns c = let a : tie.After-on_sound = c.before.before in two-booked (s (p a)).requires.1 (handled a) refl

pub book_merge_spec : {M : Type 1} → statement M
book_merge_spec =
    tie.close
    (tie.spec
    (λ c. search rules)
    (λ c. search rules)
    (λ c. search rules)
    (λ c. search rules)
    (λ c. search rules)
    (λ c. search rules)
    (λ c κs. search rules)
    (λ c. search rules)
    (λ c. search rules)
    returns)
