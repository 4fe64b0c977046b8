use Rattle.machine_laws.proofs.CauseSteps.{refused_for_first_cause}
use Rattle.machine_laws.proofs.refusals.steps_are_refused_for_their_first_cause.Goals as goal

pub returns : goal.returns
returns c = refused_for_first_cause
