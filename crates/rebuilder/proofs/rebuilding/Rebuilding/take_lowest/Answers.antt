use Rattle.std.proofs.Common.{refl, ap}
use Rattle.rebuilder.specs.Progress.{first_of}
use Rattle.rebuilder.specs.Views.{progress_of}
use Rattle.rebuilder.proofs.Counts.{left_more, left_none}
use Rattle.rebuilder.proofs.First.{search_finds, search_goes_on, search_ends}
use Rattle.rebuilder.proofs.Processors.{processor_steps, local_steps_of}
use Rattle.rebuilder.proofs.rebuilding.Rebuilding.take_lowest.Goals as goal

pub loop-processor-init : goal.loop-processor-init
loop-processor-init c = record { here = refl; so_far = ap (first_of (progress_of c.args.self.now)) (local_steps_of c.args.self.now) }

pub returns-then-take_lowest_of_processor : goal.returns-then-take_lowest_of_processor
returns-then-take_lowest_of_processor c =
    search_finds c.loop-processor.invariant _ (left_more processor_steps c.args.self.now.processors c.loop-processor.processor c.loop-processor-test.true) c.take_lowest_of_processor.ensures c.if-take_lowest_of_processor.true

pub loop-processor-preserved : goal.loop-processor-preserved
loop-processor-preserved c =
    search_goes_on c.loop-processor.invariant _ (left_more processor_steps c.args.self.now.processors c.loop-processor.processor c.loop-processor-test.true) c.take_lowest_of_processor.ensures c.if-take_lowest_of_processor.false

pub returns : goal.returns
returns c = search_ends c.loop-processor.invariant (left_none processor_steps c.args.self.now.processors c.loop-processor.processor c.loop-processor-test.false)
