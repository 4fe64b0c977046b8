use Rattle.completeness.specs.StepsFor.{entry_steps}
use Rattle.rebuilder.proofs.Counts.{left_more, left_none}
use Rattle.rebuilder.proofs.First.{search_finds, search_goes_on, search_ends}
use Rattle.rebuilder.proofs.rebuilding.Rebuilding.take_lowest_of_processor.Goals as goal

pub returns-then-take_lowest_of_entry : goal.returns-then-take_lowest_of_entry
returns-then-take_lowest_of_entry c =
    search_finds c.loop-position.invariant _ (left_more (entry_steps c.args.processor) 16 c.loop-position.position c.loop-position-test.true) c.take_lowest_of_entry.ensures c.if-take_lowest_of_entry.true

pub loop-position-preserved : goal.loop-position-preserved
loop-position-preserved c =
    search_goes_on c.loop-position.invariant _ (left_more (entry_steps c.args.processor) 16 c.loop-position.position c.loop-position-test.true) c.take_lowest_of_entry.ensures c.if-take_lowest_of_entry.false

pub returns : goal.returns
returns c = search_ends c.loop-position.invariant (left_none (entry_steps c.args.processor) 16 c.loop-position.position c.loop-position-test.false)
