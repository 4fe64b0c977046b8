-- The promise holds of every checked question. Rests on soundness and on completeness.
use Rattle.std.proofs.Common.{◌≡◌, ℕ, ◌≤◌, true, cond, eqb, List, ◌++◌, length, drop, Ok, Err, sym, refl, ap, ◌∙◌, subst, arith}
use Rattle.std.proofs.lemmas.Bool.{le-ltb}
use Rattle.fields.specs.Areas.{area_answer, area_after}
use Rattle.fields.specs.declared.refusal.Refusal.TheVariants.{WitnessNotAccepted}
use Rattle.checker.specs.Axioms.{Axioms}
use Rattle.machine.specs.Results.{Closed, closed}
use Rattle.machine.specs.State.{started}
use Rattle.machine.specs.Steps.{run_all}
use Rattle.machine.specs.declared.step.Step.{Step}
use Rattle.memory.specs.declared.cell.Cell.{Cell}
use Rattle.ordering.specs.Rules.{gam}
use Rattle.question.specs.Litmus.{Litmus}
use Rattle.reachable.specs.Checked.{Checked}
use Rattle.reachable.proofs.Runs.{every_reachable_state_keeps_the_invariant}
use Rattle.runs.specs.Records.{answers}
use Rattle.runs.proofs.Areas.{answer_with_room, area_with_room}
use Rattle.soundness.proofs.FinishedRuns.{finished_runs_satisfy_the_axioms}
use Rattle.witness.specs.Execution.{Execution, Within}
use Rattle.completeness.specs.Complete.{Rebuilt}
use Rattle.completeness.specs.StepsFor.{steps_for, bytes_of_steps}
use Rattle.completeness.proofs.Completed.{accepted_witnesses_are_rebuilt}
use Rattle.marking.specs.Earned.{run_of}
use Rattle.marking.specs.Promise.{run_over, Writes, WritesSteps, RunsToIt, AgreesWithItsWitness, AgreesWithItsSteps, StepsAndWitnessesAgree}
use Rattle.marking.proofs.MemoryStarts.{starts_alike}
use Rattle.marking.proofs.RunsWithin.{runs_within}
use Rattle.marking.proofs.StepsBack.{four_bytes_a_step}

-- A finished run writes its witness.
finished_writes : (c : Closed) (w : Execution) → c.finished ≡ true → c.execution ≡ w → Writes c w
finished_writes c w f e = subst (Writes c) e (λ area room. (answer_with_room c area f room, area_with_room c area f room))

-- Bytes are written into an area that has room.
room_answered : (bytes area : List ℕ) → length bytes ≤ length area → area_answer bytes area ≡ Ok (length bytes)
room_answered bytes area l = rw (le-ltb (length area) (length bytes) l)

room_written : (bytes area : List ℕ) → length bytes ≤ length area → area_after bytes area ≡ bytes ++ drop (length bytes) area
room_written bytes area l = rw (le-ltb (length area) (length bytes) l)

module _ (q : Litmus) (checked : Checked q) where
  -- A finished run agrees with its witness.
  pub finished_agrees : (steps : List Step) → (run_of q steps).finished ≡ true → AgreesWithItsWitness q (run_of q steps)
  finished_agrees steps finished =
      let sound = finished_runs_satisfy_the_axioms q checked steps finished in
      record {
        axioms = sound.0;
        within = runs_within q (run_all q (started q) steps) checked (every_reachable_state_keeps_the_invariant q checked steps);
        accepted = sound.1;
        written = finished_writes (run_of q steps) (run_of q steps).execution finished refl;
        registers = sound.2;
        cells = sound.3;
      }

  module _ (w : Execution) (rebuilt : Rebuilt q w) where
    -- The steps for the witness are at most 1,024 bytes.
    room_for_steps : (area : List ℕ) → 1024 ≤ length area → length (bytes_of_steps (steps_for q w)) ≤ length area
    room_for_steps area l = omega (arith, four_bytes_a_step (steps_for q w), rebuilt.few)

    -- They are written.
    steps_are_written : WritesSteps q w
    steps_are_written area l =
        let bytes = bytes_of_steps (steps_for q w) in (
          ap (λ v. cond (eqb v 0) (area_answer bytes area) (Err WitnessNotAccepted)) rebuilt.accepted ∙ room_answered bytes area (room_for_steps area l),
          ap (λ v. cond (eqb v 0) (area_after bytes area) area) rebuilt.accepted ∙ room_written bytes area (room_for_steps area l),
        )

    -- Over every memory they run to the witness.
    steps_run : (cells : List Cell) → length cells ≡ 16 → RunsToIt q w cells
    steps_run cells e =
        let alike = starts_alike q checked cells e in
        let same = ap (λ s. closed q (run_all q s (steps_for q w))) alike in
        let finishes : (run_over q cells (steps_for q w)).finished ≡ true = ap (λ (c : Closed). c.finished) same ∙ rebuilt.finished in
        let gives : (run_over q cells (steps_for q w)).execution ≡ w = ap (λ (c : Closed). c.execution) same ∙ rebuilt.same in
        record {
          answered = ap (λ s. answers q s (steps_for q w)) alike ∙ rebuilt.answered;
          finished = finishes;
          same = gives;
          written = finished_writes (run_over q cells (steps_for q w)) w finishes gives;
        }

  -- A witness of which the axioms hold agrees with its steps.
  pub witness_agrees : (w : Execution) → Within w → Axioms gam q w → AgreesWithItsSteps q w
  witness_agrees w within axioms =
      let rebuilt = accepted_witnesses_are_rebuilt q checked w within axioms in
      record { rebuilt = rebuilt; steps_written = steps_are_written w rebuilt; runs = steps_run w rebuilt }

  -- The promise.
  pub steps_and_witnesses_agree : StepsAndWitnessesAgree q
  steps_and_witnesses_agree = record {
    every_memory = starts_alike q checked;
    from_steps = λ cells e steps.
        subst (λ s. (closed q (run_all q s steps)).finished ≡ true → AgreesWithItsWitness q (closed q (run_all q s steps)))
        (sym (starts_alike q checked cells e)) (finished_agrees steps);
    from_witness = witness_agrees;
  }
