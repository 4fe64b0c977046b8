use Rattle.checker_laws.proofs.Judged.{sc_verdicts_are_the_axioms}
use Rattle.checker_laws.proofs.verdicts.sc_verdicts_are_the_axioms.Goals as goal

pub returns : goal.returns
returns c = sc_verdicts_are_the_axioms
