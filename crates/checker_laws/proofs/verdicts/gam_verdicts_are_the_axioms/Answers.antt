use Rattle.checker_laws.proofs.Judged.{gam_verdicts_are_the_axioms}
use Rattle.checker_laws.proofs.verdicts.gam_verdicts_are_the_axioms.Goals as goal

pub returns : goal.returns
returns c = gam_verdicts_are_the_axioms
