use Rattle.reachable.proofs.Questions.{questions_are_checked}
use Rattle.reachable.proofs.questions_are_checked.Goals as goal

pub returns : goal.returns
returns c = questions_are_checked
