-- Rule 5: a load that fires is accepted, with the state that the rule says.
use Rattle.std.proofs.Common.{◌≡◌, ℕ, true, false, Some, None, refl, ap, ◌∙◌, arith}
use Rattle.fields.specs.Rows.{then}
use Rattle.instructions.specs.declared.instruction.AccessType.TheVariants as access_type
use Rattle.instructions.specs.Kinds.{loads, stores, fence_to}
use Rattle.memory.specs.Cells.{cell_at}
use Rattle.memory.specs.declared.cell.Mark.TheVariants as mark
use Rattle.question.specs.Litmus.{Litmus}
use Rattle.rules.specs.Act.{action}
use Rattle.rules.specs.Changes.{wanted, unless_held, load_change, taken_from}
use Rattle.rules.specs.Tests.{open_fence_to_load, open_to_cell}
use Rattle.rules.specs.declared.rule.Rule.TheVariants as rule
use Rattle.search.specs.Search.{nearest, passes}
use Rattle.machine.specs.State.{State}
use Rattle.machine.specs.Steps.{changed, done, step_outcome, went}
use Rattle.machine.specs.Fires.{buffer, entry, instruction, Stands, Older, OpenTo, NearestOpen, step}
use Rattle.machine_laws.proofs.FiresSteps.{stepped}
use Rattle.machine_laws.proofs.GuardTests.{unless_done, not_open_to_cell, is_open_to_cell}
use Rattle.machine_laws.proofs.OlderEntries.{none_older, nearest_older}

module _ (q : Litmus) (s : State) (p i a : ℕ) (stands : Stands s p i) (kind : loads (instruction s p i) ≡ true) (not_done : (entry s p i).done ≡ false)
    (has : (entry s p i).address ≡ Some a) (fences_done : Older s p i (λ e. fence_to access_type.Load e.instruction ≡ true → e.done ≡ true)) where
  -- No older fence that loads come after is not done.
  no_fence : nearest (passes open_fence_to_load (buffer s p)) i ≡ None
  no_fence =
      none_older open_fence_to_load (buffer s p) i (omega arith)
      (λ j l. unless_done (fence_to access_type.Load (instruction s p j)) (entry s p j).done (fences_done j l))

  -- With the address available and the fences done, the value comes from where the search for open accesses says.
  taken : action rule.Load (buffer s p) p i ≡ taken_from (buffer s p) i p a (nearest (passes (open_to_cell a) (buffer s p)) i)
  taken =
      ap (λ o. then (wanted o) (λ b.
      unless_held (nearest (passes open_fence_to_load (buffer s p)) i) (taken_from (buffer s p) i p b (nearest (passes (open_to_cell b) (buffer s p)) i)))) has
      ∙ rw no_fence refl

  -- From an older store that is not done.
  pub load_forwarded_goes : (j v : ℕ) → NearestOpen s p i a j → stores (instruction s p j) ≡ true → (entry s p j).datum ≡ Some v →
      step_outcome q s (step 5 p i 0) ≡ went 0 (changed s p i (load_change (entry s p i) v (mark.Store p j)))
  load_forwarded_goes j v n k d =
      let at_j = nearest_older (open_to_cell a) (buffer s p) i j (omega arith) n.older (is_open_to_cell a (entry s p j) n.open_to_cell)
      (λ k b c. not_open_to_cell a (entry s p k) (n.none_between k b c)) in
      stepped q s 5 rule.Load p i refl stands kind not_done
      ∙ ap (done s p i) taken ∙ rw (at_j, d, k) refl

  -- From the memory.
  pub load_from_memory_goes : Older s p i (λ e. OpenTo a e → ⊥) →
      step_outcome q s (step 5 p i 0) ≡ went 0 (changed s p i (load_change (entry s p i) (cell_at s.cells a).value (cell_at s.cells a).mark))
  load_from_memory_goes h =
      let none = none_older (open_to_cell a) (buffer s p) i (omega arith) (λ j l. not_open_to_cell a (entry s p j) (h j l)) in
      stepped q s 5 rule.Load p i refl stands kind not_done
      ∙ ap (done s p i) taken ∙ rw none refl
