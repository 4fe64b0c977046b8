-- Every finished run's witness satisfies the axioms of GAM, gets verdict 0, and fixes the run's registers and cells.
use Rattle.std.proofs.Common.{◌≡◌, true}
use Rattle.machine.specs.Results.{closed}
use Rattle.machine.specs.State.{State}
use Rattle.question.specs.Litmus.{Litmus}
use Rattle.question.specs.Views.{litmus_of}
use Rattle.ordering.specs.Rules.{gam}
use Rattle.checker.specs.Axioms.{Axioms}
use Rattle.checker_laws.proofs.Judged.{gam_verdicts_are_the_axioms}
use Rattle.reachable.proofs.Questions.{questions_are_checked}
use Rattle.soundness.specs.Laws.{witness, SatisfiesTheAxioms, FinishedRunsSatisfyTheAxioms, FinishedRunsOfQuestionsSatisfyTheAxioms}
use Rattle.soundness.proofs.SeenRuns.{Shown, runs_shown}
use Rattle.soundness.proofs.WitnessCells.{cells_fixed}
use Rattle.soundness.proofs.WitnessInstOrder.{inst_order_holds}
use Rattle.soundness.proofs.WitnessLoadValue.{load_value_holds}
use Rattle.soundness.proofs.WitnessOrder.{order_holds}
use Rattle.soundness.proofs.WitnessPath.{path_holds}
use Rattle.soundness.proofs.WitnessRegisters.{registers_fixed}
use Rattle.soundness.proofs.WitnessSource.{source_holds}

module _ (q : Litmus) (s : State) (shown : Shown q s) (finished : (closed q s).finished ≡ true) where
  axioms_hold : Axioms gam q (witness q s)
  axioms_hold = record {
    path = path_holds q s shown.invariant finished;
    order = order_holds q s shown.invariant finished;
    source = source_holds q s shown finished;
    inst_order = inst_order_holds q s shown finished;
    load_value = load_value_holds q s shown finished;
  }

  pub satisfied : SatisfiesTheAxioms q s
  satisfied = (
    axioms_hold,
    (gam_verdicts_are_the_axioms.0 q (witness q s)).1 axioms_hold,
    registers_fixed q s shown.invariant finished,
    λ a l. cells_fixed q s shown finished a l,
  )

pub finished_runs_satisfy_the_axioms : FinishedRunsSatisfyTheAxioms
finished_runs_satisfy_the_axioms q checked steps finished = satisfied q _ (runs_shown q checked steps) finished

pub finished_runs_of_questions_satisfy_the_axioms : FinishedRunsOfQuestionsSatisfyTheAxioms
finished_runs_of_questions_satisfy_the_axioms q steps finished = finished_runs_satisfy_the_axioms (litmus_of q) (questions_are_checked q) steps finished
