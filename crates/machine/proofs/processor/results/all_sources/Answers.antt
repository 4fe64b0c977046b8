use Rattle.std.proofs.Common.{◌++◌, map, take, ap, ◌∙◌}
use Rattle.std.specs.List.{flat_map}
use Rattle.std.proofs.lemmas.List.{take_all}
use Rattle.machine.specs.Results.{core_sources}
use Rattle.machine.specs.Views.{core_of}
use Rattle.machine.proofs.Closing.{core_sources_next}
use Rattle.machine.proofs.processor.results.all_sources.Goals as goal

pub loop-row-preserved : goal.loop-row-preserved
loop-row-preserved c =
    let xs = c.args.rows.now in
    let i = c.loop-row.row-index in
    let x = c.row-item.result in
    c.add_sources.ensures
    ∙ ap (λ ys. take 64 (ys ++ core_sources (core_of x))) c.loop-row.invariant
    ∙ ap (λ y. take 64 (take 64 (flat_map core_sources (map core_of (take i xs))) ++ core_sources (core_of y))) c.row-item.is
    ∙ core_sources_next xs i x c.loop-row-test.true

pub returns : goal.returns
returns c =
    c.loop-row.invariant ∙ ap (λ t. take 64 (flat_map core_sources (map core_of t))) (take_all c.loop-row.row-index c.args.rows.now c.loop-row-test.false)
