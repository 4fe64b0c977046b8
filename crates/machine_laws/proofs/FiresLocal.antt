-- Rules 2, 3, 4 and 6: a step that fires is accepted, with the state that the rule says.
use Rattle.std.proofs.Common.{◌≡◌, ℕ, ◌+◌, ◌-◌, true, false, length, is_some, Some, refl, ◌∙◌, arith}
use Rattle.std.proofs.lemmas.Bool.{eq-eqb, ne_eqb}
use Rattle.instructions.specs.declared.instruction.AccessType.{AccessType}
use Rattle.instructions.specs.Effects.{arithmetic_result, data_sum, next_place}
use Rattle.instructions.specs.Kinds.{stores, computes, branches, fences, of_type, fence_from, first_operand, second_operand}
use Rattle.question.specs.Litmus.{Litmus}
use Rattle.rules.specs.Changes.{only}
use Rattle.rules.specs.Entries.{done_with, turned, supplied}
use Rattle.rules.specs.Tests.{open_for_fence}
use Rattle.rules.specs.declared.change.Effect.TheVariants.{Local}
use Rattle.rules.specs.declared.rule.Rule.TheVariants as rule
use Rattle.machine.specs.State.{State}
use Rattle.machine.specs.Steps.{changed, step_outcome, went}
use Rattle.machine.specs.Fires.{buffer, entry, instruction, Stands, Older, Ready, step}
use Rattle.machine_laws.proofs.FiresSteps.{stepped}
use Rattle.machine_laws.proofs.GuardTests.{not_open_for_fence}
use Rattle.machine_laws.proofs.OlderEntries.{none_older}
use Rattle.machine_laws.proofs.ReadyValues.{ready_is}

module _ (q : Litmus) (s : State) (p i : ℕ) (stands : Stands s p i) where
  -- Rule 2.
  pub arithmetic_goes : (x y : ℕ) → computes (instruction s p i) ≡ true → (entry s p i).done ≡ false →
      Ready s p i (first_operand (instruction s p i)) x → Ready s p i (second_operand (instruction s p i)) y →
      step_outcome q s (step 2 p i 0) ≡ went 0 (changed s p i (only (done_with (entry s p i) (arithmetic_result (instruction s p i) x y))))
  arithmetic_goes x y k d rx ry =
      stepped q s 2 rule.Arithmetic p i refl stands k d
      ∙ rw (ready_is s p i (omega arith) rx, ready_is s p i (omega arith) ry) refl

  -- Rule 3, the guess was right.
  pub branch_as_guessed_goes : (x : ℕ) → branches (instruction s p i) ≡ true → (entry s p i).done ≡ false →
      Ready s p i (first_operand (instruction s p i)) x → (entry s p i).next ≡ next_place (instruction s p i) (entry s p i).place x →
      step_outcome q s (step 3 p i 0)
      ≡ went 0 (changed s p i (only (turned (entry s p i) (next_place (instruction s p i) (entry s p i).place x))))
  branch_as_guessed_goes x k d rx e =
      stepped q s 3 rule.Branch p i refl stands k d
      ∙ rw (ready_is s p i (omega arith) rx, eq-eqb (entry s p i).next (next_place (instruction s p i) (entry s p i).place x) e) refl

  -- Rule 3, the guess was wrong.
  pub branch_otherwise_goes : (x : ℕ) → branches (instruction s p i) ≡ true → (entry s p i).done ≡ false →
      Ready s p i (first_operand (instruction s p i)) x → ((entry s p i).next ≡ next_place (instruction s p i) (entry s p i).place x → ⊥) →
      step_outcome q s (step 3 p i 0) ≡ went (length (buffer s p) - (i + 1)) (changed s p i (record {
        entry = turned (entry s p i) (next_place (instruction s p i) (entry s p i).place x);
        cut = Some (record { keep = i + 1; counter = next_place (instruction s p i) (entry s p i).place x });
        effect = Local;
      }))
  branch_otherwise_goes x k d rx n =
      stepped q s 3 rule.Branch p i refl stands k d
      ∙ rw (ready_is s p i (omega arith) rx, ne_eqb (entry s p i).next (next_place (instruction s p i) (entry s p i).place x) n) refl

  -- Rule 4.
  pub fence_goes : fences (instruction s p i) ≡ true → (entry s p i).done ≡ false →
      ((t : AccessType) → fence_from t (instruction s p i) ≡ true → Older s p i (λ e. of_type t e.instruction ≡ true → e.done ≡ true)) →
      step_outcome q s (step 4 p i 0) ≡ went 0 (changed s p i (only (done_with (entry s p i) (entry s p i).value)))
  fence_goes k d h =
      let none = none_older (open_for_fence (instruction s p i)) (buffer s p) i (omega arith)
      (λ j l. not_open_for_fence (instruction s p i) (entry s p j) (λ t f. h t f j l)) in
      stepped q s 4 rule.Fence p i refl stands k d
      ∙ rw none refl

  -- Rule 6.
  pub store_data_goes : (y : ℕ) → stores (instruction s p i) ≡ true → is_some (entry s p i).datum ≡ false →
      Ready s p i (second_operand (instruction s p i)) y →
      step_outcome q s (step 6 p i 0) ≡ went 0 (changed s p i (only (supplied (entry s p i) (data_sum (instruction s p i) y))))
  store_data_goes y k d ry =
      stepped q s 6 rule.StoreData p i refl stands k d
      ∙ rw (ready_is s p i (omega arith) ry) refl
