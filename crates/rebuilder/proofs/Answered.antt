-- Accepted witnesses are rebuilt, and none of the bytes of their steps is cut off.
use Rattle.std.proofs.Common.{◌≡◌, ℕ, ◌≤◌, eqb, is_ok, List, Ok, Err, Result, length, take, refl, ap, ◌∙◌, arith}
use Rattle.std.proofs.lemmas.List.{take_all}
use Rattle.question.specs.Views.{litmus_of}
use Rattle.question.specs.declared.question.Question.{Question}
use Rattle.witness.specs.Views.{execution_of}
use Rattle.witness.specs.declared.witness.Witness.{Witness}
use Rattle.witness.proofs.Joined.{length_joined}
use Rattle.witness.proofs.Within.{within}
use Rattle.ordering.specs.Rules.{gam}
use Rattle.ordering.specs.Tests.{gam_keeps}
use Rattle.std.specs.Prelude.{⊤}
use Rattle.checker.specs.Views.{verdict_number}
use Rattle.checker.specs.declared.axiom.Axiom.{Axiom}
use Rattle.checker.specs.declared.axiom.Axiom.TheVariants.{Path, Order, Source, InstOrder, LoadValue}
use Rattle.checker.specs.Axioms.{Axioms}
use Rattle.checker.specs.Verdict.{verdict}
use Rattle.checker_laws.proofs.Judged.{gam_verdicts_are_the_axioms}
use Rattle.machine.specs.declared.step.Step.{Step}
use Rattle.reachable.proofs.Questions.{questions_are_checked}
use Rattle.completeness.specs.Complete.{Rebuilt}
use Rattle.completeness.specs.StepsFor.{bytes_of_steps, most_steps}
use Rattle.machine.specs.Bytes.{step_bytes}
use Rattle.completeness.proofs.Completed.{accepted_witnesses_are_rebuilt}

-- Every witness of which the axioms hold is rebuilt.
pub rebuilt : (question : Question) (witness : Witness) → Axioms gam (litmus_of question) (execution_of witness) → Rebuilt (litmus_of question) (execution_of witness)
rebuilt question witness = accepted_witnesses_are_rebuilt (litmus_of question) (questions_are_checked question) (execution_of witness) (within witness)

-- An accepted witness is rebuilt.
pub rebuilt_if_accepted : (question : Question) (witness : Witness) → verdict gam_keeps (litmus_of question) (execution_of witness) ≡ 0 → Rebuilt (litmus_of question) (execution_of witness)
rebuilt_if_accepted question witness h = rebuilt question witness ((gam_verdicts_are_the_axioms.0 (litmus_of question) (execution_of witness)).0 h)

-- Few steps have few bytes, so that none is cut off.
pub all_bytes : (steps some : List Step) (bytes : List ℕ) → length steps ≤ most_steps → some ≡ take most_steps steps → bytes ≡ take 1024 (bytes_of_steps some) → bytes ≡ bytes_of_steps steps
all_bytes steps some bytes few is has =
    has
    ∙ ap (λ xs. take 1024 (bytes_of_steps xs)) (is ∙ take_all most_steps steps few)
    ∙ take_all 1024 (bytes_of_steps steps) (omega (arith, length_joined step_bytes 4 (λ _. refl) steps))

-- A witness is accepted exactly by the verdict 0.
pub accepted_by_number : (r : Result ⊤ Axiom) → is_ok r ≡ eqb (verdict_number r) 0
accepted_by_number (Ok _) = refl
accepted_by_number (Err Path) = refl
accepted_by_number (Err Order) = refl
accepted_by_number (Err Source) = refl
accepted_by_number (Err InstOrder) = refl
accepted_by_number (Err LoadValue) = refl
