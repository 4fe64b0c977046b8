-- What the rebuild call answers and writes.
use Rattle.std.specs.Prelude.{ℕ, cond, List, Err, Result, ◌==◌}
use Rattle.fields.specs.Areas.{area_answer, area_after}
use Rattle.fields.specs.declared.refusal.Refusal.{Refusal}
use Rattle.fields.specs.declared.refusal.Refusal.TheVariants.{WitnessNotAccepted}
use Rattle.question.specs.Litmus.{Litmus}
use Rattle.witness.specs.Execution.{Execution}
use Rattle.ordering.specs.Tests.{gam_keeps}
use Rattle.checker.specs.Verdict.{verdict}
use Rattle.completeness.specs.StepsFor.{steps_for, bytes_of_steps}

-- Refused if the witness is not accepted under GAM, then if the area has fewer bytes than the steps; else how many bytes were written.
abbrev pub rebuild_answer : Litmus → Execution → List ℕ → Result ℕ Refusal
rebuild_answer q w area = cond (verdict gam_keeps q w == 0) (area_answer (bytes_of_steps (steps_for q w)) area) (Err WitnessNotAccepted)

-- The area afterwards: the steps at its front; unchanged where the call is refused.
abbrev pub rebuild_area : Litmus → Execution → List ℕ → List ℕ
rebuild_area q w area = cond (verdict gam_keeps q w == 0) (area_after (bytes_of_steps (steps_for q w)) area) area
