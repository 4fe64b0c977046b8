-- What a step makes of a state.
use Rattle.std.specs.Prelude.{ℕ, ◌-◌, Bool, cond, not, ◌&&◌, List, [], ◌∷◌, ◌++◌, length, take, Some, None, Ok, Err, Option, Result, ◌==◌, nat_le, nat_lt, slice_set}
use Rattle.fields.specs.declared.refusal.Refusal.{Refusal}
use Rattle.fields.specs.declared.refusal.Refusal.TheVariants.{RuleOrProcessorAbsent}
use Rattle.memory.specs.declared.cell.Cell.{Cell}
use Rattle.memory.specs.Cells.{cell_at, written}
use Rattle.question.specs.Litmus.{Litmus, code_at}
use Rattle.rules.specs.Act.{act, fetch}
use Rattle.rules.specs.Changes.{load_change}
use Rattle.rules.specs.Entries.{at}
use Rattle.rules.specs.Rules.{rule_of}
use Rattle.rules.specs.declared.change.Action.{Action}
use Rattle.rules.specs.declared.change.Action.TheVariants.{Make, Read}
use Rattle.rules.specs.declared.change.Change.{Change}
use Rattle.rules.specs.declared.change.Cut.{Cut}
use Rattle.rules.specs.declared.change.Effect.{Effect}
use Rattle.rules.specs.declared.change.Effect.TheVariants.{Local, Loaded, Stored}
use Rattle.rules.specs.declared.entry.Entry.{Entry}
use Rattle.rules.specs.declared.rule.Rule.{Rule}
use Rattle.rules.specs.declared.rule.Rule.TheVariants as rule
use Rattle.witness.specs.declared.record.Access.{Access}
use Rattle.machine.specs.declared.step.Step.{Step}
use Rattle.machine.specs.State.{Core, State, core_at}

-- A step is refused, or goes and answers how many entries it removed, with the state afterwards.
pub data Outcome : Type 0 where
  refused : Refusal → Outcome
  went : ℕ → State → Outcome

-- What the step answers.
abbrev pub answer : Outcome → Result ℕ Refusal
answer (refused e) = Err e
answer (went n s) = Ok n

-- The state after the step; a refused step changes nothing.
abbrev pub after : State → Outcome → State
after s (refused e) = s
after s (went n t) = t

-- The state with another processor p.
abbrev pub with_core : State → ℕ → Core → State
with_core s p c = record { cores = slice_set s.cores p c; order = s.order; cells = s.cells }

-- The entries that stay.
abbrev pub kept : Option Cut → List Entry → List Entry
kept None es = es
kept (Some c) es = take c.keep es

-- How many of n entries go.
abbrev pub removed : Option Cut → ℕ → ℕ
removed None n = 0
removed (Some c) n = n - c.keep

-- The counter afterwards.
abbrev pub counter_after : Option Cut → ℕ → ℕ
counter_after None counter = counter
counter_after (Some c) counter = c.counter

-- The access is not one of processor p's from position n on.
abbrev pub stays : ℕ → ℕ → Access → Bool
stays p n a = not (a.processor == p && nat_le n a.position)

-- The accesses that pass a test, in their order.
abbrev pub only : (Access → Bool) → List Access → List Access
only t [] = []
only t (a ∷ rest) = cond (t a) (a ∷ only t rest) (only t rest)

-- The memory order without what goes of processor p.
abbrev pub order_kept : Option Cut → ℕ → List Access → List Access
order_kept None p order = order
order_kept (Some c) p order = only (stays p c.keep) order

-- The memory order with one access more; four processors of sixteen entries have at most 64.
abbrev pub joined : List Access → Access → List Access
joined order a = take 64 (order ++ a ∷ [])

-- The memory order afterwards: an access joins it as it is done.
abbrev pub order_after : Effect → List Access → Access → List Access
order_after Local order a = order
order_after Loaded order a = joined order a
order_after (Stored address cell) order a = joined order a

-- The cells afterwards: a store writes one.
abbrev pub cells_after : Effect → List Cell → List Cell
cells_after Local cells = cells
cells_after Loaded cells = cells
cells_after (Stored address cell) cells = written cells address cell

-- The processor after a change of its entry at i.
abbrev pub core_changed : Core → ℕ → Change → Core
core_changed c i ch = record { counter = counter_after ch.cut c.counter; entries = kept ch.cut (slice_set c.entries i ch.entry) }

-- The state after a change of the entry at i of processor p.
abbrev pub changed : State → ℕ → ℕ → Change → State
changed s p i ch = record {
  cores = slice_set s.cores p (core_changed (core_at s p) i ch);
  order = order_after ch.effect (order_kept ch.cut p s.order) (record { processor = p; position = i });
  cells = cells_after ch.effect s.cells;
}

-- A change that is made, with the number of entries that it removes.
abbrev pub made : State → ℕ → ℕ → Change → Outcome
made s p i ch = went (removed ch.cut (length (core_at s p).entries)) (changed s p i ch)

-- A load that reads the memory at an address.
abbrev pub read : State → ℕ → ℕ → ℕ → Outcome
read s p i a =
    let c = cell_at s.cells a in
    made s p i (load_change (at (core_at s p).entries i) c.value c.mark)

-- What becomes of an action.
abbrev pub done : State → ℕ → ℕ → Result Action Refusal → Outcome
done s p i (Ok (Make ch)) = made s p i ch
done s p i (Ok (Read a)) = read s p i a
done s p i (Err e) = refused e

-- The processor after a fetch: its entry is the youngest of at most sixteen, and the counter goes on as guessed.
abbrev pub core_fetched : Core → Entry → Core
core_fetched c e = record { counter = e.next; entries = take 16 (c.entries ++ e ∷ []) }

-- What becomes of a fetch.
abbrev pub fetched : State → ℕ → Result Entry Refusal → Outcome
fetched s p (Ok e) = went 0 (with_core s p (core_fetched (core_at s p) e))
fetched s p (Err e) = refused e

-- A fetch of processor p.
unfoldable pub fetch_outcome : Litmus → State → ℕ → ℕ → ℕ → Outcome
fetch_outcome q s p i g = fetched s p (fetch (code_at q p) (core_at s p).counter (core_at s p).entries i g)

-- A step of rules 2 to 8 of processor p.
unfoldable pub act_outcome : State → Rule → ℕ → ℕ → ℕ → Outcome
act_outcome s r p i g = done s p i (act r (core_at s p).entries p i g)

-- A step by its rule, on a processor that there is.
abbrev pub by_rule : Litmus → State → Rule → ℕ → ℕ → ℕ → Outcome
by_rule q s rule.Fetch p i g = fetch_outcome q s p i g
by_rule q s rule.Arithmetic p i g = act_outcome s rule.Arithmetic p i g
by_rule q s rule.Branch p i g = act_outcome s rule.Branch p i g
by_rule q s rule.Fence p i g = act_outcome s rule.Fence p i g
by_rule q s rule.Load p i g = act_outcome s rule.Load p i g
by_rule q s rule.StoreData p i g = act_outcome s rule.StoreData p i g
by_rule q s rule.Store p i g = act_outcome s rule.Store p i g
by_rule q s rule.Address p i g = act_outcome s rule.Address p i g

-- A step by its rule, if there is one with its number.
abbrev pub numbered : Litmus → State → Step → Option Rule → Outcome
numbered q s st None = refused RuleOrProcessorAbsent
numbered q s st (Some r) =
    cond (nat_lt st.processor (length s.cores)) (by_rule q s r st.processor st.position st.guess) (refused RuleOrProcessorAbsent)

-- What a step makes of a state of a run of the question.
unfoldable pub step_outcome : Litmus → State → Step → Outcome
step_outcome q s st = numbered q s st (rule_of st.rule)

-- The state after a list of steps, refused ones counting as none.
unfoldable pub run_all : Litmus → State → List Step → State
run_all q s [] = s
run_all q s (st ∷ sts) = run_all q (after s (step_outcome q s st)) sts
