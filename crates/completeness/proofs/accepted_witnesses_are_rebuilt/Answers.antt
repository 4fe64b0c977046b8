use Rattle.completeness.proofs.Completed.{accepted_witnesses_are_rebuilt}
use Rattle.completeness.proofs.accepted_witnesses_are_rebuilt.Goals as goal

pub returns : goal.returns
returns c = accepted_witnesses_are_rebuilt
