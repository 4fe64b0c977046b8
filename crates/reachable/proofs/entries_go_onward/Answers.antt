use Rattle.reachable.proofs.Runs.{entries_go_onward}
use Rattle.reachable.proofs.entries_go_onward.Goals as goal

pub returns : goal.returns
returns c = entries_go_onward
