use Rattle.std.proofs.Common.{sym, ap, ◌∙◌}
use Rattle.instructions.specs.Kinds.{loads}
use Rattle.checker.specs.Views.{asked, stated}
use Rattle.checker.proofs.Evaluations.{load_on_path}
use Rattle.checker.proofs.evaluated.Evaluated.is_sourced.Goals as goal

pub source-source-requires : goal.source-source-requires
source-source-requires c =
    load_on_path (asked c.args.self.now) (stated c.args.self.now) c.args.at.processor c.args.at.position
    (sym (c.loads.ensures ∙ ap (λ e. loads e.instruction) c.event.ensures) ∙ c.if-not-loads.false)
