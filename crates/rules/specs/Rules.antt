-- The rules by their numbers, and which entries each is for.
use Rattle.std.specs.Prelude.{ℕ, Bool, false, cond, is_some, Some, None, Option, ◌==◌}
use Rattle.instructions.specs.Kinds.{loads, stores, access, computes, branches, fences}
use Rattle.instructions.specs.declared.instruction.Instruction.{Instruction}
use Rattle.rules.specs.declared.entry.Entry.{Entry}
use Rattle.rules.specs.declared.rule.Rule.{Rule}
use Rattle.rules.specs.declared.rule.Rule.TheVariants as rule

-- The rule with this number.
abbrev pub rule_of : ℕ → Option Rule
rule_of n =
    cond (n == 1) (Some rule.Fetch)
    (cond (n == 2) (Some rule.Arithmetic)
    (cond (n == 3) (Some rule.Branch)
    (cond (n == 4) (Some rule.Fence)
    (cond (n == 5) (Some rule.Load)
    (cond (n == 6) (Some rule.StoreData)
    (cond (n == 7) (Some rule.Store)
    (cond (n == 8) (Some rule.Address) None)))))))

-- The number of a rule.
abbrev pub rule_number : Rule → ℕ
rule_number rule.Fetch = 1
rule_number rule.Arithmetic = 2
rule_number rule.Branch = 3
rule_number rule.Fence = 4
rule_number rule.Load = 5
rule_number rule.StoreData = 6
rule_number rule.Store = 7
rule_number rule.Address = 8

-- The kind of instruction that a rule is for; a fetch is for none, since it makes its entry.
abbrev pub suits : Rule → Instruction → Bool
suits rule.Fetch i = false
suits rule.Arithmetic i = computes i
suits rule.Branch i = branches i
suits rule.Fence i = fences i
suits rule.Load i = loads i
suits rule.StoreData i = stores i
suits rule.Store i = stores i
suits rule.Address i = access i

-- Whether the rule's step was made already: the data or the address are available, or the entry is done.
abbrev pub made : Rule → Entry → Bool
made rule.Fetch e = e.done
made rule.Arithmetic e = e.done
made rule.Branch e = e.done
made rule.Fence e = e.done
made rule.Load e = e.done
made rule.StoreData e = is_some e.datum
made rule.Store e = e.done
made rule.Address e = is_some e.address
