-- `requests::position_held` meets its contract: looked up, then read. Assumes nothing.
use mir.Facts.{to_z-of_z}
use borrow.Author.Rules.{rules}
use Rattle.requests.proofs.position_held.Statement.{statement}
use Rattle.requests.proofs.position_held.Tie as tie

returns : tie.Need-returns
returns c =
    let s : tie.Start = c.before.before in
    record {
      found-is = simp (to_z-of_z s.ranges.account, to_z-of_z s.ranges.series) at c.find_position-found.ensures;
      read_is = simp (to_z-of_z s.ranges.account, to_z-of_z s.ranges.series) at c.read_position-position.ensures;
    }

pub position_held_spec : {M : Type 1} → statement M
position_held_spec = tie.close (tie.spec (λ c κs. search rules) (λ c κs. search rules) returns)
