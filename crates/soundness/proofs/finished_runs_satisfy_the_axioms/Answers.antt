use Rattle.soundness.proofs.FinishedRuns.{finished_runs_satisfy_the_axioms, finished_runs_of_questions_satisfy_the_axioms}
use Rattle.soundness.proofs.finished_runs_satisfy_the_axioms.Goals as goal

pub returns : goal.returns
returns c = record { checked = finished_runs_satisfy_the_axioms; questions = finished_runs_of_questions_satisfy_the_axioms }
