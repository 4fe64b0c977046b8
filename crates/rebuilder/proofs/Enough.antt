-- An area of 1024 bytes is enough for the steps of a witness of which the axioms hold.
use Rattle.std.proofs.Common.{◌≤◌, cond, ◌++◌, length, drop, Ok, Err, refl, ap, ◌∙◌, arith, le-ltb, eq-eqb}
use Rattle.fields.specs.Areas.{area_answer, area_after}
use Rattle.fields.specs.declared.refusal.Refusal.TheVariants.{AreaTooShort, WitnessNotAccepted}
use Rattle.witness.proofs.Joined.{length_joined}
use Rattle.ordering.specs.Tests.{gam_keeps}
use Rattle.checker.specs.Verdict.{verdict}
use Rattle.completeness.specs.StepsFor.{bytes_of_steps, steps_for}
use Rattle.machine.specs.Bytes.{step_bytes}
use Rattle.completeness.proofs.Completed.{accepted_witnesses_are_rebuilt}
use Rattle.rebuilder.specs.Rebuild.{AreasOf1024BytesAreEnough}

pub areas_of_1024_bytes_are_enough : AreasOf1024BytesAreEnough
areas_of_1024_bytes_are_enough q checked w within axioms area long =
    let rebuilt = accepted_witnesses_are_rebuilt q checked w within axioms in
    let bytes = bytes_of_steps (steps_for q w) in
    let fit : length bytes ≤ length area = omega (arith, length_joined step_bytes 4 (λ _. refl) (steps_for q w), rebuilt.few) in
    let accepted = eq-eqb (verdict gam_keeps q w) 0 rebuilt.accepted in
    let room = le-ltb (length area) (length bytes) fit in (
      ap (λ b. cond b (area_answer bytes area) (Err WitnessNotAccepted)) accepted ∙ ap (λ b. cond b (Err AreaTooShort) (Ok (length bytes))) room,
      ap (λ b. cond b (area_after bytes area) area) accepted ∙ ap (λ b. cond b area (bytes ++ drop (length bytes) area)) room,
    )
