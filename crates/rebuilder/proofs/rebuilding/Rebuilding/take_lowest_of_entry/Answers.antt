use Rattle.std.proofs.lemmas.List.{at_drop_all}
use Rattle.completeness.specs.StepsFor.{entry_steps}
use Rattle.rebuilder.proofs.First.{search_finds, search_goes_on, search_ends}
use Rattle.rebuilder.proofs.Rules.{next_rule}
use Rattle.rebuilder.proofs.rebuilding.Rebuilding.take_lowest_of_entry.Goals as goal

pub returns-then-take_if_accepted : goal.returns-then-take_if_accepted
returns-then-take_if_accepted c =
    search_finds c.loop-rule.invariant _ (next_rule c.args.processor c.args.position c.loop-rule.rule-index _ c.loop-rule-test.true c.entry_step.ensures) c.take_if_accepted.ensures c.if-take_if_accepted.true

pub loop-rule-preserved : goal.loop-rule-preserved
loop-rule-preserved c =
    search_goes_on c.loop-rule.invariant _ (next_rule c.args.processor c.args.position c.loop-rule.rule-index _ c.loop-rule-test.true c.entry_step.ensures) c.take_if_accepted.ensures c.if-take_if_accepted.false

pub returns : goal.returns
returns c = search_ends c.loop-rule.invariant (at_drop_all (λ xs. xs) (entry_steps c.args.processor c.args.position) c.loop-rule.rule-index c.loop-rule-test.false)
