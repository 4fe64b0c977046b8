use Rattle.std.proofs.Common.{◌≡◌, ◌<◌, min, length, map, rules, ap, ◌∙◌, arith}
use Rattle.std.specs.List.{sum, range_with_len}
use Rattle.std.proofs.lemmas.Iterator.{YieldsList-from_range, YieldsList-from_map}
use Rattle.std.proofs.lemmas.Iterator.Consumers.{sum_from_yields_List, fits_from_yields_list}
use Rattle.question.specs.Views.{litmus_of}
use Rattle.witness.specs.Views.{execution_of}
use Rattle.witness.proofs.Within.{within}
use Rattle.events.specs.Sources.{loads_before}
use Rattle.events.proofs.LoadCounts.{path_loads, before_few, before_least, loads_added}
use Rattle.events.proofs.loads.loads_before.Goals as goal

pub sum-requires-clause-fits : goal.sum-requires-clause-fits
sum-requires-clause-fits c =
    let q = litmus_of c.args.question.now in
    let w = execution_of c.args.witness.now in
    let f = path_loads q w in
    let n = c.min.result in
    let small : sum (map f (range_with_len 0 n)) < 18446744073709551616 = omega (arith, loads_added q w n, before_few q w n (within c.args.witness.now)) in
    fits_from_yields_list c.map.result _ (YieldsList-from_map _ f (YieldsList-from_range 0 n n (cc) (omega arith)) c.map.ensures.closure (λ x r k d. search rules)) small

pub returns : goal.returns
returns c =
    let q = litmus_of c.args.question.now in
    let w = execution_of c.args.witness.now in
    let f = path_loads q w in
    let n = c.min.result in
    let added : c.sum.result ≡ sum (map f (range_with_len 0 n)) =
    sum_from_yields_List c.map.result _ c.sum.ensures.ran (YieldsList-from_map _ f (YieldsList-from_range 0 n n (cc) (omega arith)) c.map.ensures.closure (λ x r k d. search rules)) in
    let least : n ≡ min c.args.processors (length w.paths) = c.min.ensures ∙ ap (min c.args.processors) c.processors.ensures in
    let count : c.sum.result ≡ loads_before q w c.args.processors = added ∙ loads_added q w n ∙ before_least q w c.args.processors n least in
    record { count = count; few = omega (arith, count, before_few q w c.args.processors (within c.args.witness.now)) }
