use Rattle.std.proofs.Common.{◌<◌, arith}
use Rattle.bounded.specs.Items.{items}
use Rattle.question.specs.Views.{litmus_of}
use Rattle.witness.specs.Views.{execution_of}
use Rattle.witness.proofs.Within.{within}
use Rattle.events.specs.Sources.{events}
use Rattle.events.specs.Views.{path_sources}
use Rattle.events.proofs.Rows.{counted_push}
use Rattle.events.proofs.evaluate.evaluate.Goals as goal

pub loop-p-preserved : goal.loop-p-preserved
loop-p-preserved c =
    let q = litmus_of c.args.question.now in
    let w = execution_of c.args.witness.now in
    let p = c.loop-p.p in
    let all = items c.loop-p.rows in
    let more = items c.push.new.self in
    let row = c.path.result in
    let l : p < 4 = omega (arith, c.processors-p-end.ensures, c.loop-p-test.true, (within c.args.witness.now).few_paths) in (
      counted_push (λ x. items x.events) (events q w) 4 p all more row l c.push.ensures.items c.loop-p.invariant.0 c.path.ensures.events,
      counted_push (λ x. items x.sources) (path_sources q w) 4 p all more row l c.push.ensures.items c.loop-p.invariant.1 c.path.ensures.sources,
    )
