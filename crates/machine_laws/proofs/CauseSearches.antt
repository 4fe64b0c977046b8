-- What the searches of the rules found is what holds a step back.
use Rattle.std.proofs.Common.{◌≡◌, ℕ, ◌<◌, Bool, true, false, not, ◌&&◌, ◌||◌, ◌⊎◌, length, is_some, Some, inl, inr}
use Rattle.std.proofs.lemmas.Bool.{and_parts, or_cases, not-true}
use Rattle.instructions.specs.declared.instruction.AccessType.TheVariants as access_type
use Rattle.instructions.specs.Kinds.{loads, stores, access, branches, fence_from, fence_to}
use Rattle.rules.specs.Tests.{open_for_fence, open_fence_to_load, open_fence_to_store, open_to_cell, holds_store}
use Rattle.rules.specs.declared.entry.Entry.{Entry}
use Rattle.search.specs.Search.{nearest, passes, Nearest}
use Rattle.search.proofs.Searches.{nearest_some}
use Rattle.machine.specs.State.{State}
use Rattle.machine.specs.Fires.{buffer, entry, instruction}
use Rattle.machine_laws.proofs.CauseNumbers.{FenceHeld, FenceHolds, StoreHeld, branch_holds, unknown_holds, cell_holds, fence_holds}
use Rattle.machine_laws.proofs.GoneReady.{as_entry}
use Rattle.machine_laws.proofs.GoneTests.{is_open}

-- This and not that: this holds and that does not.
open_parts : (a d : Bool) → (a && not d) ≡ true → (a ≡ true) × (d ≡ false)
open_parts a d h = let k = and_parts a (not d) h in (k.0, not-true d k.1)

module _ (s : State) (p i : ℕ) (l : i < length (buffer s p)) where
  -- What was found is older and passes.
  found_older : (f : Entry → Bool) (j : ℕ) → nearest (passes f (buffer s p)) i ≡ Some j → (j < i) × (f (entry s p j) ≡ true)
  found_older f j e =
      let n : Nearest (passes f (buffer s p)) i j = nearest_some (passes f (buffer s p)) i j e in
      (n.below, as_entry s p i l f true j n.below n.hit)

  -- An open access of the fence's first type was found.
  pub fence_found : (j : ℕ) → nearest (passes (open_for_fence (instruction s p i)) (buffer s p)) i ≡ Some j → FenceHeld s p i
  fence_found j e =
      let f = found_older (open_for_fence (instruction s p i)) j e in
      let k = open_parts (first_loads || first_stores) (entry s p j).done f.1 in
      go f.0 k.1 (or_cases first_loads first_stores k.0)
    where
      first_loads : Bool
      first_loads = fence_from access_type.Load (instruction s p i) && loads (instruction s p j)

      first_stores : Bool
      first_stores = fence_from access_type.Store (instruction s p i) && stores (instruction s p j)

      go : j < i → (entry s p j).done ≡ false → (first_loads ≡ true) ⊎ (first_stores ≡ true) → FenceHeld s p i
      go b d (inl h) =
          let k = and_parts (fence_from access_type.Load (instruction s p i)) (loads (instruction s p j)) h in
          (access_type.Load, k.0, (j, b, (k.1, d)))
      go b d (inr h) =
          let k = and_parts (fence_from access_type.Store (instruction s p i)) (stores (instruction s p j)) h in
          (access_type.Store, k.0, (j, b, (k.1, d)))

  -- An open fence that loads come after was found.
  pub load_fence_found : (j : ℕ) → nearest (passes open_fence_to_load (buffer s p)) i ≡ Some j → FenceHolds s p i access_type.Load
  load_fence_found j e =
      let f = found_older open_fence_to_load j e in
      (j, f.0, open_parts (fence_to access_type.Load (instruction s p j)) (entry s p j).done f.1)

  -- Something that holds a store to address a back was found.
  pub store_found : (a j : ℕ) → (entry s p i).address ≡ Some a → nearest (passes (holds_store a) (buffer s p)) i ≡ Some j → StoreHeld s p i
  store_found a j h e =
      let f = found_older (holds_store a) j e in
      by_branch f.0 (or_cases turning (unknown || (open_to_cell a (entry s p j) || open_fence_to_store (entry s p j))) f.1)
    where
      turning : Bool
      turning = branches (instruction s p j) && not (entry s p j).done

      unknown : Bool
      unknown = access (instruction s p j) && not (is_some (entry s p j).address)

      by_cell : j < i → (open_to_cell a (entry s p j) ≡ true) ⊎ (open_fence_to_store (entry s p j) ≡ true) → StoreHeld s p i
      by_cell b (inl x) = cell_holds a h (j, b, is_open a (entry s p j) x)
      by_cell b (inr x) = fence_holds (j, b, open_parts (fence_to access_type.Store (instruction s p j)) (entry s p j).done x)

      by_address : j < i → (unknown ≡ true) ⊎ ((open_to_cell a (entry s p j) || open_fence_to_store (entry s p j)) ≡ true) → StoreHeld s p i
      by_address b (inl x) = unknown_holds (j, b, open_parts (access (instruction s p j)) (is_some (entry s p j).address) x)
      by_address b (inr x) = by_cell b (or_cases (open_to_cell a (entry s p j)) (open_fence_to_store (entry s p j)) x)

      by_branch : j < i → (turning ≡ true) ⊎ ((unknown || (open_to_cell a (entry s p j) || open_fence_to_store (entry s p j))) ≡ true) → StoreHeld s p i
      by_branch b (inl x) = branch_holds (j, b, open_parts (branches (instruction s p j)) (entry s p j).done x)
      by_branch b (inr x) = by_address b (or_cases unknown (open_to_cell a (entry s p j) || open_fence_to_store (entry s p j)) x)
