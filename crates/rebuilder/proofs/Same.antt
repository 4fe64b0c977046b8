-- What steps lead to does not turn on how question, state, steps and accesses are written.
use Rattle.std.proofs.Common.{◌≡◌, List, ◌++◌, take}
use Rattle.question.specs.Litmus.{Litmus}
use Rattle.machine.specs.State.{State}
use Rattle.machine.specs.Steps.{after, step_outcome, run_all}
use Rattle.machine.specs.declared.step.Step.{Step}
use Rattle.witness.specs.declared.record.Access.{Access}
use Rattle.completeness.specs.StepsFor.{most_steps, carry_out}

pub same_after : {p q : Litmus} {s t : State} {a b : Step} → p ≡ q → s ≡ t → a ≡ b → after s (step_outcome p s a) ≡ after t (step_outcome q t b)
same_after e f g = λ i. after (f i) (step_outcome (e i) (f i) (g i))

pub same_run : {p q : Litmus} {s t : State} {xs ys : List Step} → p ≡ q → s ≡ t → xs ≡ ys → run_all p s xs ≡ run_all q t ys
same_run a b c = λ i. run_all (a i) (b i) (c i)

pub same_carried : {p q : Litmus} {xs ys : List Access} (all : List Step) (s : State) → p ≡ q → xs ≡ ys →
    take most_steps (all ++ (carry_out p xs s).steps) ≡ take most_steps (all ++ (carry_out q ys s).steps)
same_carried all s a b = λ i. take most_steps (all ++ (carry_out (a i) (b i) s).steps)
