-- Rule 7: a store that fires is accepted, with the state that the rule says.
use Rattle.std.proofs.Common.{◌≡◌, ℕ, true, false, is_some, Some, None, Ok, Result, refl, ap, ◌∙◌, arith}
use Rattle.fields.specs.declared.refusal.Refusal.{Refusal}
use Rattle.fields.specs.Rows.{then}
use Rattle.instructions.specs.declared.instruction.AccessType.TheVariants as access_type
use Rattle.instructions.specs.Kinds.{stores, access, branches, fence_to}
use Rattle.memory.specs.declared.cell.Mark.TheVariants as mark
use Rattle.question.specs.Litmus.{Litmus}
use Rattle.rules.specs.Act.{action, making}
use Rattle.rules.specs.Changes.{wanted, unless_held}
use Rattle.rules.specs.Entries.{done_with}
use Rattle.rules.specs.Tests.{holds_store}
use Rattle.rules.specs.declared.change.Action.TheVariants.{Make}
use Rattle.rules.specs.declared.change.Change.{Change}
use Rattle.rules.specs.declared.change.Effect.TheVariants.{Stored}
use Rattle.rules.specs.declared.rule.Rule.TheVariants as rule
use Rattle.search.specs.Search.{nearest, passes}
use Rattle.machine.specs.State.{State}
use Rattle.machine.specs.Steps.{changed, done, step_outcome, went}
use Rattle.machine.specs.Fires.{buffer, entry, instruction, Stands, Older, OpenTo, step}
use Rattle.machine_laws.proofs.FiresSteps.{stepped}
use Rattle.machine_laws.proofs.GuardTests.{not_holds_store}
use Rattle.machine_laws.proofs.OlderEntries.{none_older}

-- What a store to address a with data d changes.
abbrev store_change : State → ℕ → ℕ → ℕ → ℕ → Change
store_change s p i a d = record {
  entry = done_with (entry s p i) (entry s p i).value;
  cut = None;
  effect = Stored a (record { value = d; mark = mark.Store p i });
}

-- With address and data available and nothing found that holds the store back, the change is made.
stored : (s : State) (p i a d : ℕ) → (entry s p i).address ≡ Some a → (entry s p i).datum ≡ Some d →
    nearest (passes (holds_store a) (buffer s p)) i ≡ None → action rule.Store (buffer s p) p i ≡ Ok (Make (store_change s p i a d))
stored s p i a d has_address has_datum none =
    ap (λ o. making (then (wanted o) (λ b. then (wanted (entry s p i).datum) (λ v. held b v)))) has_address
    ∙ ap (λ o. making (then (wanted o) (λ v. held a v))) has_datum
    ∙ rw none refl
  where
    held : ℕ → ℕ → Result Change Refusal
    held b v = unless_held (nearest (passes (holds_store b) (buffer s p)) i) (Ok (store_change s p i b v))

-- Nothing older holds the store back, so it is done and its cell is written.
pub store_goes : (q : Litmus) (s : State) (p i a d : ℕ) → Stands s p i → stores (instruction s p i) ≡ true → (entry s p i).done ≡ false →
    (entry s p i).address ≡ Some a → (entry s p i).datum ≡ Some d →
    Older s p i (λ e. branches e.instruction ≡ true → e.done ≡ true) →
    Older s p i (λ e. access e.instruction ≡ true → is_some e.address ≡ true) →
    Older s p i (λ e. OpenTo a e → ⊥) →
    Older s p i (λ e. fence_to access_type.Store e.instruction ≡ true → e.done ≡ true) →
    step_outcome q s (step 7 p i 0) ≡ went 0 (changed s p i (store_change s p i a d))
store_goes q s p i a d stands kind not_done has_address has_datum branches_done addressed cell_done fences_done =
    let none = none_older (holds_store a) (buffer s p) i (omega arith)
    (λ j l. not_holds_store a (entry s p j) (branches_done j l) (addressed j l) (cell_done j l) (fences_done j l)) in
    stepped q s 7 rule.Store p i refl stands kind not_done
    ∙ ap (done s p i) (stored s p i a d has_address has_datum none)
