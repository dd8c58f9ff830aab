use borrow.Author.Count.{below_more}
use Rattle.merge_sources.proofs.SourceTests.{fails-first, fails-nowhere}
use Rattle.merge.proofs.sources.first_failing.Goals as goal

pub returns-then-fails : goal.returns-then-fails
returns-then-fails g c =
    λ test is. fails-first c.args.records.now c.args.pairs.now _ test is c.loop-i.i c.loop-i-test.true c.loop-i.invariant (c.source_record.result, c.source_record.ensures, c.if-fails.ensures)

pub loop-i-preserved : goal.loop-i-preserved
loop-i-preserved g c = below_more _ _ c.loop-i.invariant (c.source_record.result, c.source_record.ensures, c.if-fails.ensures)

pub returns : goal.returns
returns g c = λ test is. fails-nowhere c.args.records.now c.args.pairs.now _ test is c.loop-i.i c.loop-i-test.false c.loop-i.invariant
