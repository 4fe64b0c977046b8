use Rattle.soundness.proofs.BranchToItself.{branch_to_itself_never_finishes}
use Rattle.soundness.proofs.branch_to_itself_never_finishes.Goals as goal

pub returns : goal.returns
returns c = branch_to_itself_never_finishes
