-- A step of rules 2 to 8 that names an entry of the right kind whose step was not made: what is left is the rule's own action.
use Rattle.std.proofs.Common.{◌≡◌, ℕ, ◌<◌, true, false, List, length, Some, refl, ap, ◌∙◌}
use Rattle.std.proofs.lemmas.Bool.{lt-ltb, both_ways}
use Rattle.question.specs.Litmus.{Litmus}
use Rattle.rules.specs.Act.{act, action}
use Rattle.rules.specs.Entries.{at}
use Rattle.rules.specs.Rules.{rule_of, suits, made}
use Rattle.rules.specs.declared.entry.Entry.{Entry}
use Rattle.rules.specs.declared.rule.Rule.{Rule}
use Rattle.machine.specs.State.{State}
use Rattle.machine.specs.Steps.{step_outcome, act_outcome, done}
use Rattle.machine.specs.Fires.{buffer, entry, instruction, Stands, step}
use Rattle.machine.proofs.Outcomes.{act_step}

-- The tests before the action pass.
acted : (r : Rule) (es : List Entry) (p i : ℕ) → i < length es → suits r (at es i).instruction ≡ true → made r (at es i) ≡ false →
    act r es p i 0 ≡ action r es p i
acted r es p i l k m = rw (lt-ltb i (length es) l, k, m) refl

-- The step comes to the rule's action.
pub stepped : (q : Litmus) (s : State) (n : ℕ) (r : Rule) (p i : ℕ) → rule_of n ≡ Some r → Stands s p i →
    suits r (instruction s p i) ≡ true → made r (entry s p i) ≡ false → step_outcome q s (step n p i 0) ≡ done s p i (action r (buffer s p) p i)
unfolding act_outcome
stepped q s n r p i e (a, b) k m =
    act_step q s (step n p i 0) r e (λ z. both_ways (suits r (instruction s p i)) (ap (λ x. suits x (instruction s p i)) z) k) a
    ∙ ap (done s p i) (acted r (buffer s p) p i b k m)
