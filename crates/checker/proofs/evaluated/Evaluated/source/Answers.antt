use Rattle.std.proofs.Common.{◌<◌, length, get_or, ap, ◌∙◌, arith, rules}
use Rattle.events.specs.Sources.{no_source}
use Rattle.checker.specs.Views.{asked, stated}
use Rattle.checker.proofs.Evaluations.{length_sources, sources_at}
use Rattle.checker.proofs.evaluated.Evaluated.source.Goals as goal

-- The path has a source record at the position.
within : (c : goal.After-sources) → c.args.at.position < length c.sources.result.now
within c = omega (arith, c.requires, ap length c.sources.ensures, length_sources (asked c.args.self.now) (stated c.args.self.now) c.args.at.processor)

pub bounds-sources-at : goal.bounds-sources-at
bounds-sources-at c = within c

pub offset_bounds-sources-at : goal.offset_bounds-sources-at
offset_bounds-sources-at c = let l = within c in search rules

pub returns : goal.returns
returns c =
    ap (λ xs. get_or xs c.args.at.position no_source) c.sources.ensures
    ∙ sources_at (asked c.args.self.now) (stated c.args.self.now) c.args.at.processor c.args.at.position no_source c.requires
