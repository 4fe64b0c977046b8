use Rattle.reachable.proofs.Ends.{finished_runs_are_done}
use Rattle.reachable.proofs.finished_runs_are_done.Goals as goal

pub returns : goal.returns
returns c = finished_runs_are_done
