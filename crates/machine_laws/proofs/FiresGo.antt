-- A step whose rule fires is accepted, with the number of removed entries and the state that the rule says.
use Rattle.std.proofs.Common.{◌≡◌, ℕ}
use Rattle.question.specs.Litmus.{Litmus}
use Rattle.machine.specs.State.{State}
use Rattle.machine.specs.Steps.{step_outcome, went}
use Rattle.machine.specs.Fires.{Fires}
use Rattle.machine.specs.declared.step.Step.{Step}
use Rattle.machine_laws.proofs.FiresAddress.{address_goes, address_removes_goes}
use Rattle.machine_laws.proofs.FiresFetch.{fetch_taken_goes, fetch_goes}
use Rattle.machine_laws.proofs.FiresLoad.{load_forwarded_goes, load_from_memory_goes}
use Rattle.machine_laws.proofs.FiresLocal.{arithmetic_goes, branch_as_guessed_goes, branch_otherwise_goes, fence_goes, store_data_goes}
use Rattle.machine_laws.proofs.FiresStore.{store_goes}

-- By the constructor of the rule.
pub fires_go : (q : Litmus) (s : State) (st : Step) (n : ℕ) (t : State) → Fires q s st n t → step_outcome q s st ≡ went n t
fires_go q s _ _ _ (Fires.fetch_taken p a b c d) = fetch_taken_goes q s p a b c d
fires_go q s _ _ _ (Fires.fetch p a b c) = fetch_goes q s p a b c
fires_go q s _ _ _ (Fires.arithmetic p i x y a b c d e) = arithmetic_goes q s p i a x y b c d e
fires_go q s _ _ _ (Fires.branch_as_guessed p i x a b c d e) = branch_as_guessed_goes q s p i a x b c d e
fires_go q s _ _ _ (Fires.branch_otherwise p i x a b c d e) = branch_otherwise_goes q s p i a x b c d e
fires_go q s _ _ _ (Fires.fence p i a b c d) = fence_goes q s p i a b c d
fires_go q s _ _ _ (Fires.load_forwarded p i a j v b c d e f g h k) = load_forwarded_goes q s p i a b c d e f j v g h k
fires_go q s _ _ _ (Fires.load_from_memory p i a b c d e f g) = load_from_memory_goes q s p i a b c d e f g
fires_go q s _ _ _ (Fires.store_data p i y a b c d) = store_data_goes q s p i a y b c d
fires_go q s _ _ _ (Fires.store p i a d b c e f g h k l m) = store_goes q s p i a d b c e f g h k l m
fires_go q s _ _ _ (Fires.address p i x a b c d e) = address_goes q s p i x a b c d e
fires_go q s _ _ _ (Fires.address_removes p i x m a b c d e f g) = address_removes_goes q s p i x a b c d m e f g
