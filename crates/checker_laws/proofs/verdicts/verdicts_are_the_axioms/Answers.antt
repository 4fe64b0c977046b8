use Rattle.checker_laws.proofs.Judged.{verdicts_are_the_axioms}
use Rattle.checker_laws.proofs.verdicts.verdicts_are_the_axioms.Goals as goal

pub returns : goal.returns
returns c = verdicts_are_the_axioms
