-- Steps that finish and accepted witnesses earn the same mark.
use Rattle.std.proofs.Common.{◌≡◌, ℕ, zero, suc, ◌<◌, true, false, cond, List, Some, Ok, sym, refl, ap, ◌∙◌, arith}
use Rattle.std.specs.List.{AllByRecursion}
use Rattle.checker.specs.Verdict.{verdict}
use Rattle.checker_laws.proofs.Judged.{gam_verdicts_are_the_axioms}
use Rattle.format_laws.proofs.WitnessesMean.{witnesses_are_read_as_they_mean, written_witnesses_are_read_back}
use Rattle.machine.specs.declared.step.Step.{Step}
use Rattle.ordering.specs.Tests.{gam_keeps}
use Rattle.question.specs.Litmus.{Litmus}
use Rattle.reachable.specs.Checked.{Checked}
use Rattle.runs.specs.StepBytes.{steps_of}
use Rattle.witness.specs.Bytes.{bytes_of}
use Rattle.witness.specs.Execution.{Execution, Within}
use Rattle.witness.specs.Read.{witness_of}
use Rattle.completeness.specs.Complete.{Rebuilt}
use Rattle.completeness.specs.StepsFor.{steps_for, bytes_of_steps}
use Rattle.completeness.proofs.Completed.{accepted_witnesses_are_rebuilt}
use Rattle.marking.specs.Earned.{accepted, unfinished, steps, witness, by_verdict, by_run, by_steps, by_witness, earned, run_of}
use Rattle.marking.specs.Marks.{MarksAgree}
use Rattle.marking.proofs.Promised.{finished_agrees}
use Rattle.marking.proofs.StepsBack.{steps_back}

-- Only verdict 0 is accepted.
only_zero : (v : ℕ) → by_verdict v ≡ accepted → v ≡ 0
only_zero zero e = refl
only_zero (suc v) e = absurd (omega (arith, not_fails e))
  where
    not_fails : by_verdict (suc v) ≡ accepted → ◌≡◌ {A = ℕ} 0 1
    not_fails h = cc

module _ (q : Litmus) (checked : Checked q) where
  -- A finished run earns what its witness earns, and that is accepted.
  by_finished_run : (sts : List Step) → (run_of q sts).finished ≡ true → by_run q (run_of q sts) ≡ by_verdict (verdict gam_keeps q (run_of q sts).execution)
  by_finished_run sts f = ap (λ b. cond b (by_verdict (verdict gam_keeps q (run_of q sts).execution)) unfinished) f

  finished_run_accepted : (sts : List Step) → (run_of q sts).finished ≡ true → by_run q (run_of q sts) ≡ accepted
  finished_run_accepted sts f = by_finished_run sts f ∙ ap by_verdict (finished_agrees q checked sts f).accepted

  -- Steps that finish are accepted.
  pub steps_accepted : (b : List ℕ) (sts : List Step) → steps_of b ≡ Some sts → (run_of q sts).finished ≡ true → earned q (steps b) ≡ accepted
  steps_accepted b sts e f = ap (by_steps q) e ∙ finished_run_accepted sts f

  -- Steps that do not are unfinished.
  pub steps_unfinished : (b : List ℕ) (sts : List Step) → steps_of b ≡ Some sts → (run_of q sts).finished ≡ false → earned q (steps b) ≡ unfinished
  steps_unfinished b sts e f = ap (by_steps q) e ∙ ap (λ t. cond t (by_verdict (verdict gam_keeps q (run_of q sts).execution)) unfinished) f

  -- The witness of steps that finish earns the same.
  witness_earns : (b : List ℕ) (sts : List Step) → steps_of b ≡ Some sts → (run_of q sts).finished ≡ true →
      earned q (steps b) ≡ earned q (witness (bytes_of (run_of q sts).execution))
  witness_earns b sts e f =
      ap (by_steps q) e ∙ by_finished_run sts f
      ∙ sym (ap (by_witness q) (written_witnesses_are_read_back (run_of q sts).execution (finished_agrees q checked sts f).within))

  module _ (b : List ℕ) (bytes : AllByRecursion (λ x. x < 256) b) (w : Execution) (read : witness_of b ≡ Ok w) (mark : earned q (witness b) ≡ accepted) where
    -- The witness that the bytes are, and that they are its bytes.
    meant : Within w × (b ≡ bytes_of w)
    meant = (witnesses_are_read_as_they_mean b bytes w).0 read

    -- It is rebuilt.
    again : Rebuilt q w
    again =
        let zero_verdict = only_zero (verdict gam_keeps q w) (sym (ap (by_witness q) read) ∙ mark) in
        accepted_witnesses_are_rebuilt q checked w meant.0 ((gam_verdicts_are_the_axioms.0 q w).0 zero_verdict)

    rebuilt_accepted : earned q (steps (bytes_of_steps (steps_for q w))) ≡ accepted
    rebuilt_accepted = steps_accepted (bytes_of_steps (steps_for q w)) (steps_for q w) (steps_back (steps_for q w)) again.finished

    rebuilt_bytes : bytes_of (run_of q (steps_for q w)).execution ≡ b
    rebuilt_bytes = ap bytes_of again.same ∙ sym meant.1

  pub marks_agree : MarksAgree q
  marks_agree = record { finished_accepted = steps_accepted; of_steps = witness_earns; of_witness = rebuilt_accepted; back_again = rebuilt_bytes }
