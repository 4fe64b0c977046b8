use Rattle.std.proofs.Common.{◌≡◌, length, ap, ◌∙◌, arith}
use Rattle.bounded.specs.Items.{items}
use Rattle.question.specs.Views.{litmus_of}
use Rattle.witness.specs.Views.{execution_of}
use Rattle.witness.proofs.Within.{within}
use Rattle.events.specs.Views.{path_sources}
use Rattle.events.proofs.Evaluations.{path_sourced, path_evaluated}
use Rattle.events.proofs.LoadCounts.{path_short}
use Rattle.events.proofs.evaluate.path.Goals as goal

pub path_sources-sources-requires : goal.path_sources-sources-requires
path_sources-sources-requires c =
    let w = c.args.witness.now in
    (omega (arith, ap length c.path-places.ensures, path_short (execution_of w) c.args.processor (within w)), c.loads_before-first.ensures.few)

pub path_events-events-requires : goal.path_events-events-requires
path_events-events-requires c =
    let w = c.args.witness.now in
    omega (arith, ap length c.path-places.ensures, path_short (execution_of w) c.args.processor (within w))

pub returns : goal.returns
returns c =
    let q = litmus_of c.args.question.now in
    let w = execution_of c.args.witness.now in
    let p = c.args.processor in
    let code = c.code-code.ensures.value in
    let places = c.path-places.ensures in
    let sources : items c.path_sources-sources.result ≡ path_sources q w p =
    path_sourced q w p code places c.sources.ensures c.loads_before-first.ensures.count c.path_sources-sources.ensures in
    record {
      events = path_evaluated q w p code places (c.as_slice.ensures ∙ sources) c.path_events-events.ensures;
      sources = sources;
    }
