use Rattle.soundness.proofs.FinishingRun.{store_then_load_satisfies_the_axioms}
use Rattle.soundness.proofs.store_then_load_satisfies_the_axioms.Goals as goal

pub returns : goal.returns
returns c = store_then_load_satisfies_the_axioms
