use Rattle.machine_laws.proofs.FiresGo.{fires_go}
use Rattle.machine_laws.proofs.GoneFires.{gone_fires}
use Rattle.machine_laws.proofs.steps.steps_are_the_rules.Goals as goal

pub returns : goal.returns
returns c = λ q s st n t. (gone_fires q s st n t, fires_go q s st n t)
