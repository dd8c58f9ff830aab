-- `transfer::book` meets its contract: an accepted transfer moves its record, with two rows of type 4. Assumes nothing.
use lib.IntN.{ℤ}
use mathlib.Core.List.{List}
use mir.Facts.{to_z-of_z}
use borrow.Author.Rules.{rules}
use Rattle.rules.specs.Figures.{transfer_kind}
use Rattle.rules.specs.declared.Record.{Record}
use Rattle.verdict.proofs.MovingReady.{Movable}
use Rattle.verdict.proofs.Transfer.{transfer-movable, transfer-returns}
use Rattle.transfer.specs.MovingReady.{MovingReady}
use Rattle.transfer.proofs.book.Statement.{statement}
use Rattle.transfer.proofs.book.Tie as tie

module _ (s : tie.Start) where
  abbrev rs : List ℤ
  rs = s.args.records.now

  abbrev ps : List ℤ
  ps = s.args.positions.now

  abbrev r : Record
  r = s.args.named.record

  ready : MovingReady rs ps s.args.named s.args.old s.args.new s.args.id s.args.suffix s.args.from s.args.to s.args.series transfer_kind transfer_kind
  ready =
      let may : Movable rs ps s.args.id s.args.suffix s.args.from s.args.to s.args.series transfer_kind transfer_kind r =
      transfer-movable rs ps s.args.id s.args.suffix s.args.from s.args.to s.args.series s.requires.0.0 s.requires.0.1 s.requires.0.2 r s.requires.1.0.found in
      record {
        records-sound = s.requires.0.0;
        positions-sound = s.requires.0.1;
        record-known = s.requires.1.0;
        old-known = s.requires.1.1;
        new-known = s.requires.1.2;
        not-inverse = may.not-inverse;
        accounts-differ = may.accounts-differ;
        to-valid = may.to-valid;
        inverse-kind = may.inverse-kind;
        new-kind = may.new-kind;
        accepted = may.accepted;
      }

book-moved-requires : tie.Need-book_moved-requires
book-moved-requires c κs =
    let s : tie.Start = c.before.before in
    simp (to_z-of_z s.ranges.id, to_z-of_z s.ranges.suffix, to_z-of_z s.ranges.from, to_z-of_z s.ranges.to, to_z-of_z s.ranges.series) (ready s)

returns : tie.Need-returns
returns c =
    let m : tie.After-book_moved = c.before.before in
    let s : tie.Start = m.before.before.before in
    let after = simp (to_z-of_z s.ranges.id, to_z-of_z s.ranges.from, to_z-of_z s.ranges.to, to_z-of_z s.ranges.series) at m.book_moved.ensures in
    transfer-returns (rs s) (ps s) s.args.id s.args.suffix s.args.from s.args.to s.args.series (r s) s.requires.1.0.found
    m.book_moved.new.records m.book_moved.new.positions after.0 after.1

pub book_spec : {M : Type 1} → statement M
book_spec = tie.close (tie.spec book-moved-requires (λ c. search rules) (λ c. search rules) returns)
