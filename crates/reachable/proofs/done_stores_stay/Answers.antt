use Rattle.reachable.proofs.Runs.{done_stores_stay}
use Rattle.reachable.proofs.done_stores_stay.Goals as goal

pub returns : goal.returns
returns c = done_stores_stay
