-- Why a step is refused: the causes by their numbers, and that the refusal is the first that holds.
use Rattle.std.specs.Prelude.{◌≡◌, ℕ, ◌<◌, ◌≤◌, true, false, ◌≢◌, ◌⊎◌, ◌↔◌, length, is_some, Some, None}
use Rattle.fields.specs.Refusals.{refusal_number}
use Rattle.fields.specs.declared.refusal.Refusal.{Refusal}
use Rattle.instructions.specs.declared.instruction.AccessType.{AccessType}
use Rattle.instructions.specs.declared.instruction.AccessType.TheVariants as access_type
use Rattle.instructions.specs.Kinds.{stores, access, branches, of_type, fence_from, fence_to, first_operand, second_operand}
use Rattle.machine.specs.Fires.{buffer, entry, instruction, Ready, OpenTo, NearestOpen}
use Rattle.machine.specs.State.{State, core_at}
use Rattle.machine.specs.Steps.{step_outcome, refused}
use Rattle.machine.specs.declared.step.Step.{Step}
use Rattle.question.specs.Litmus.{Litmus, code_at, instruction_at}
use Rattle.rules.specs.Rules.{rule_of, suits, made}
use Rattle.rules.specs.declared.entry.Entry.{Entry}
use Rattle.rules.specs.declared.rule.Rule.{Rule}
use Rattle.rules.specs.declared.rule.Rule.TheVariants as rule

-- No value of the operand is ready for the entry at i of processor p.
abbrev pub NotReady : State → ℕ → ℕ → (Rattle.instructions.specs.declared.instruction.Instruction.Instruction → Rattle.std.specs.declared.option.Option.Option ℕ) → Type 0
NotReady s p i operand = (x : ℕ) → Ready s p i (operand (instruction s p i)) x → ⊥

-- Some older entry has a property.
abbrev pub SomeOlder : State → ℕ → ℕ → (Entry → Type 0) → Type 0
SomeOlder s p i P = (j : ℕ) × (j < i) × P (entry s p j)

module _ (q : Litmus) (s : State) (st : Step) where
  abbrev p : ℕ
  p = st.processor

  abbrev i : ℕ
  i = st.position

  -- The rule of the step.
  abbrev pub By : Rule → Type 0
  By r = rule_of st.rule ≡ Some r

  -- A cause of refusal, by its number.
  pub data Cause : ℕ → Type 0 where
    no_rule : rule_of st.rule ≡ None → Cause 7
    no_processor : length s.cores ≤ p → Cause 7
    fetch_at_the_end : By rule.Fetch → length (code_at q p) ≤ (core_at s p).counter → Cause 8
    buffer_full : By rule.Fetch → 16 ≤ length (buffer s p) → Cause 9
    fetch_with_a_position : By rule.Fetch → i ≢ 0 → Cause 10
    fetch_with_another_guess : By rule.Fetch → 1 < st.guess → Cause 10
    guess_off_a_branch : By rule.Fetch → st.guess ≡ 1 → branches (instruction_at (code_at q p) (core_at s p).counter) ≡ false → Cause 10
    no_entry : (r : Rule) → By r → r ≢ rule.Fetch → length (buffer s p) ≤ i → Cause 10
    guess_off_a_fetch : (r : Rule) → By r → r ≢ rule.Fetch → st.guess ≢ 0 → Cause 10
    another_kind : (r : Rule) → By r → r ≢ rule.Fetch → suits r (instruction s p i) ≡ false → Cause 11
    already_made : (r : Rule) → By r → r ≢ rule.Fetch → made r (entry s p i) ≡ true → Cause 12
    first_operand_wanting : (r : Rule) → By r → ((r ≡ rule.Arithmetic) ⊎ (r ≡ rule.Branch)) ⊎ (r ≡ rule.Address) → NotReady s p i first_operand → Cause 13
    second_operand_wanting : (r : Rule) → By r → (r ≡ rule.Arithmetic) ⊎ (r ≡ rule.StoreData) → NotReady s p i second_operand → Cause 13
    address_wanting : (r : Rule) → By r → (r ≡ rule.Load) ⊎ (r ≡ rule.Store) → (entry s p i).address ≡ None → Cause 13
    data_wanting : By rule.Store → (entry s p i).datum ≡ None → Cause 13
    fence_held_back : By rule.Fence → (t : AccessType) → fence_from t (instruction s p i) ≡ true →
        SomeOlder s p i (λ e. (of_type t e.instruction ≡ true) × (e.done ≡ false)) → Cause 14
    load_behind_a_fence : By rule.Load → SomeOlder s p i (λ e. (fence_to access_type.Load e.instruction ≡ true) × (e.done ≡ false)) → Cause 14
    load_behind_an_access : By rule.Load → (a j : ℕ) → (entry s p i).address ≡ Some a → NearestOpen s p i a j →
        (stores (instruction s p j) ≡ false) ⊎ ((entry s p j).datum ≡ None) → Cause 14
    store_behind_a_branch : By rule.Store → SomeOlder s p i (λ e. (branches e.instruction ≡ true) × (e.done ≡ false)) → Cause 14
    store_behind_an_unknown_address : By rule.Store → SomeOlder s p i (λ e. (access e.instruction ≡ true) × (is_some e.address ≡ false)) → Cause 14
    store_behind_the_same_cell : By rule.Store → (a : ℕ) → (entry s p i).address ≡ Some a → SomeOlder s p i (OpenTo a) → Cause 14
    store_behind_a_fence : By rule.Store → SomeOlder s p i (λ e. (fence_to access_type.Store e.instruction ≡ true) × (e.done ≡ false)) → Cause 14

-- A step is refused exactly for the first cause that holds, in the order of the numbers.
abbrev pub StepsAreRefusedForTheirFirstCause : Type 0
StepsAreRefusedForTheirFirstCause =
    (q : Litmus) (s : State) (st : Step) (e : Refusal) →
    (step_outcome q s st ≡ refused e) ↔ (Cause q s st (refusal_number e) × ((k : ℕ) → k < refusal_number e → Cause q s st k → ⊥))
