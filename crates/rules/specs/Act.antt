-- A step of rules 2 to 8, with its tests in order; and a fetch.
use Rattle.std.specs.Prelude.{ℕ, Bool, cond, ◌&&◌, ◌||◌, List, length, Ok, Err, Result, ◌==◌, nat_lt}
use Rattle.fields.specs.declared.refusal.Refusal.{Refusal}
use Rattle.fields.specs.declared.refusal.Refusal.TheVariants.{FetchAtEnd, BufferFull, PositionOrGuessNotAllowed, KindDoesNotSuitRule, StepAlreadyMade}
use Rattle.fields.specs.Rows.{then}
use Rattle.instructions.specs.Effects.{guessed_place}
use Rattle.instructions.specs.Kinds.{branches}
use Rattle.instructions.specs.declared.instruction.Instruction.{Instruction}
use Rattle.question.specs.Litmus.{instruction_at}
use Rattle.rules.specs.declared.change.Action.{Action}
use Rattle.rules.specs.declared.change.Action.TheVariants.{Make}
use Rattle.rules.specs.declared.change.Change.{Change}
use Rattle.rules.specs.declared.entry.Entry.{Entry}
use Rattle.rules.specs.declared.rule.Rule.{Rule}
use Rattle.rules.specs.declared.rule.Rule.TheVariants as rule
use Rattle.rules.specs.Changes as changes
use Rattle.rules.specs.Entries.{at, fresh}
use Rattle.rules.specs.Rules.{suits, made}

-- The change is to be made.
abbrev pub making : Result Change Refusal → Result Action Refusal
making r = then r (λ c. Ok (Make c))

-- What the rule does to the entry at i of processor p.
abbrev pub action : Rule → List Entry → ℕ → ℕ → Result Action Refusal
action rule.Fetch es p i = Err KindDoesNotSuitRule
action rule.Arithmetic es p i = making (changes.arithmetic es i)
action rule.Branch es p i = making (changes.branch es i)
action rule.Fence es p i = making (changes.fence es i)
action rule.Load es p i = changes.load es i p
action rule.StoreData es p i = making (changes.store_data es i)
action rule.Store es p i = making (changes.store es i p)
action rule.Address es p i = making (changes.address es i)

-- A step of rules 2 to 8: there is an entry and no guess; the rule is for its kind; the step was not made yet; then the rule itself.
abbrev pub act : Rule → List Entry → ℕ → ℕ → ℕ → Result Action Refusal
act r es p i guess =
    cond (nat_lt i (length es) && guess == 0)
    (cond (suits r (at es i).instruction)
    (cond (made r (at es i)) (Err StepAlreadyMade) (action r es p i))
    (Err KindDoesNotSuitRule))
    (Err PositionOrGuessNotAllowed)

-- A fetch names position 0, and guesses 1 only at a branch.
abbrev pub fetch_fits : Instruction → ℕ → ℕ → Bool
fetch_fits i position guess = position == 0 && (guess == 0 || (guess == 1 && branches i))

-- A fetch: not at the end, not into a full buffer, with a fitting position and guess; the entry that it adds.
abbrev pub fetch : List Instruction → ℕ → List Entry → ℕ → ℕ → Result Entry Refusal
fetch code counter es position guess =
    cond (nat_lt counter (length code))
    (cond (nat_lt (length es) 16)
    (cond (fetch_fits (instruction_at code counter) position guess)
    (Ok (fresh counter (instruction_at code counter) (guessed_place (instruction_at code counter) counter (guess == 1))))
    (Err PositionOrGuessNotAllowed))
    (Err BufferFull))
    (Err FetchAtEnd)
