-- The local steps of an entry, by the rules that are left.
use Rattle.std.proofs.Common.{◌≡◌, ℕ, ◌+◌, ◌<◌, List, [], ◌∷◌, ◌++◌, get_or, drop, ap, sym, ◌∙◌}
use Rattle.std.proofs.lemmas.List.{at_drop_more, get_or-map}
use Rattle.rules.specs.Rules.{rule_number}
use Rattle.rules.specs.declared.rule.Rule.{Rule}
use Rattle.rules.specs.declared.rule.Rule.TheVariants as rule
use Rattle.machine.specs.Fires.{step}
use Rattle.machine.specs.declared.step.Step.{Step}
use Rattle.completeness.specs.StepsFor.{entry_steps}

-- The rules of local steps.
abbrev pub rules : List Rule
rules = rule.Arithmetic ∷ rule.Branch ∷ rule.Fence ∷ rule.StoreData ∷ rule.Address ∷ []

-- The step by rule number i of the local rules comes next.
pub next_rule : (p k i : ℕ) {st : Step} (blank : Rule) → i < 5 → st ≡ step (rule_number (get_or rules i blank)) p k 0 → drop i (entry_steps p k) ≡ (st ∷ []) ++ drop (i + 1) (entry_steps p k)
next_rule p k i blank l is =
    at_drop_more (λ xs. xs) (entry_steps p k) i (step (rule_number blank) p k 0) l
    ∙ ap (λ x. x ∷ drop (i + 1) (entry_steps p k)) (get_or-map (λ (r : Rule). step (rule_number r) p k 0) rules i blank (step (rule_number blank) p k 0) l ∙ sym is)
