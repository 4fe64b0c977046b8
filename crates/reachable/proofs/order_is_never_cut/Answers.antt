use Rattle.reachable.proofs.Runs.{order_never_cut}
use Rattle.reachable.proofs.order_is_never_cut.Goals as goal

pub returns : goal.returns
returns c = order_never_cut
