use Rattle.reachable.proofs.OrderSteps.{order_goes_on}
use Rattle.reachable.proofs.order_goes_on.Goals as goal

pub returns : goal.returns
returns c = order_goes_on
