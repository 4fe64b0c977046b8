-- What a rule does to an entry, by what it wants and what holds it back.
use Rattle.std.proofs.Common.{◌≡◌, ℕ, ◌<◌, Bool, true, false, ◌≢◌, ◌⊎◌, length, is_some, Some, None, Ok, Err, Option, Result, refl, inl, inr, arith}
use Rattle.std.proofs.lemmas.Bool.{both_ways, cases_order}
use Rattle.fields.specs.declared.refusal.Refusal.{Refusal}
use Rattle.fields.specs.declared.refusal.Refusal.TheVariants.{OperandWanting, HeldBack}
use Rattle.fields.specs.Rows.{then}
use Rattle.instructions.specs.declared.instruction.Instruction.{Instruction}
use Rattle.instructions.specs.declared.instruction.AccessType.TheVariants as access_type
use Rattle.instructions.specs.Kinds.{stores, first_operand, second_operand}
use Rattle.rules.specs.Act.{action, making}
use Rattle.rules.specs.Changes.{wanted, unless_held, forwarded, taken_from}
use Rattle.rules.specs.Ready.{ready}
use Rattle.rules.specs.Tests.{open_for_fence, open_fence_to_load, open_to_cell, holds_store}
use Rattle.rules.specs.declared.change.Action.{Action}
use Rattle.rules.specs.declared.change.Change.{Change}
use Rattle.rules.specs.declared.rule.Rule.{Rule}
use Rattle.rules.specs.declared.rule.Rule.TheVariants as rule
use Rattle.search.specs.Search.{nearest, passes}
use Rattle.machine.specs.State.{State}
use Rattle.machine.specs.Fires.{buffer, entry, instruction, NearestOpen}
use Rattle.machine_laws.specs.Causes.{NotReady}
use Rattle.machine_laws.proofs.CauseNumbers.{Wants, Held, branch_holds, unknown_holds, cell_holds, fence_holds, FenceHolds}
use Rattle.machine_laws.proofs.CauseSearches.{fence_found, load_fence_found, store_found}
use Rattle.machine_laws.proofs.GoneReady.{ready_means}
use Rattle.machine_laws.proofs.GoneTests.{fence_free, load_free, none_open, nearest_open, store_free}
use Rattle.machine_laws.proofs.ReadyValues.{ready_is}

-- Nothing is Some and None.
some_or_none : {A : Type 0} {x : A} (o : Option A) → o ≡ Some x → o ≡ None → ⊥
some_or_none o e f = let z : ◌≡◌ {A = ℕ} 0 1 = cc in absurd (omega arith)

-- The answer of a rule's action fits what the rule wants and what holds it back.
abbrev pub Fitting : State → ℕ → ℕ → Rule → Result Action Refusal → Type 0
Fitting s p i r (Ok a) = (Wants s p i r → ⊥) × (Held s p i r → ⊥)
Fitting s p i r (Err e) = ((e ≡ OperandWanting) × Wants s p i r) ⊎ ((e ≡ HeldBack) × (Wants s p i r → ⊥) × Held s p i r)

-- Two nearest open accesses to a cell are the same.
one_nearest : (s : State) (p i a j k : ℕ) → NearestOpen s p i a j → NearestOpen s p i a k → j ≡ k
one_nearest s p i a j k m n = elim (cases_order j k) [
  | inl e ↦ e
  | inr (inl b) ↦ absurd (m.none_between k b n.older n.open_to_cell)
  | inr (inr b) ↦ absurd (n.none_between j b m.older m.open_to_cell)
]

module _ (s : State) (p i : ℕ) (l : i < length (buffer s p)) where
  -- An operand without a value is not ready.
  unready : (f : Instruction → Option ℕ) → ready (buffer s p) i (f (instruction s p i)) ≡ None → NotReady s p i f
  unready f e x r = some_or_none (ready (buffer s p) i (f (instruction s p i))) (ready_is s p i (omega arith) r) e

  -- An operand with a value is ready.
  readied : (f : Instruction → Option ℕ) (x : ℕ) → ready (buffer s p) i (f (instruction s p i)) ≡ Some x → NotReady s p i f → ⊥
  readied f x e n = n x (ready_means s p i l (f (instruction s p i)) x e)

  -- A rule that wants one operand and is not held back.
  by_operand : (r : Rule) (f : Instruction → Option ℕ) → (NotReady s p i f → Wants s p i r) → (Wants s p i r → NotReady s p i f) → (Held s p i r → ⊥) →
      (c : ℕ → Change) → Fitting s p i r (making (then (wanted (ready (buffer s p) i (f (instruction s p i)))) (λ x. Ok (c x))))
  by_operand r f to from free c = go (ready (buffer s p) i (f (instruction s p i))) refl
    where
      go : (o : Option ℕ) → ready (buffer s p) i (f (instruction s p i)) ≡ o → Fitting s p i r (making (then (wanted o) (λ x. Ok (c x))))
      go None e = inl (refl, to (unready f e))
      go (Some x) e = (λ w. readied f x e (from w), free)

  -- Rule 2.
  arithmetic_fits : (c : ℕ → ℕ → Change) →
      Fitting s p i rule.Arithmetic (making (then (wanted (ready (buffer s p) i (first_operand (instruction s p i)))) (λ x.
      then (wanted (ready (buffer s p) i (second_operand (instruction s p i)))) (λ y. Ok (c x y)))))
  arithmetic_fits c = go (ready (buffer s p) i (first_operand (instruction s p i))) refl (ready (buffer s p) i (second_operand (instruction s p i))) refl
    where
      neither : (x y : ℕ) → ready (buffer s p) i (first_operand (instruction s p i)) ≡ Some x → ready (buffer s p) i (second_operand (instruction s p i)) ≡ Some y →
          Wants s p i rule.Arithmetic → ⊥
      neither x y e f (inl n) = readied first_operand x e n
      neither x y e f (inr n) = readied second_operand y f n

      go : (o : Option ℕ) → ready (buffer s p) i (first_operand (instruction s p i)) ≡ o → (u : Option ℕ) → ready (buffer s p) i (second_operand (instruction s p i)) ≡ u →
          Fitting s p i rule.Arithmetic (making (then (wanted o) (λ x. then (wanted u) (λ y. Ok (c x y)))))
      go None e u f = inl (refl, inl (unready first_operand e))
      go (Some x) e None f = inl (refl, inr (unready second_operand f))
      go (Some x) e (Some y) f = (neither x y e f, λ h. h)

  -- Rule 4.
  fence_fits : (c : Change) → Fitting s p i rule.Fence (making (unless_held (nearest (passes (open_for_fence (instruction s p i)) (buffer s p)) i) (Ok c)))
  fence_fits c = go (nearest (passes (open_for_fence (instruction s p i)) (buffer s p)) i) refl
    where
      go : (o : Option ℕ) → nearest (passes (open_for_fence (instruction s p i)) (buffer s p)) i ≡ o → Fitting s p i rule.Fence (making (unless_held o (Ok c)))
      go None e = (λ w. w, λ (t, f, (j, b, (x, d))). both_ways (entry s p j).done d (fence_free s p i l (instruction s p i) e t f j b x))
      go (Some j) e = inr (refl, λ w. w, fence_found s p i l j e)

  -- No open fence that loads come after was found.
  no_load_fence : nearest (passes open_fence_to_load (buffer s p)) i ≡ None → FenceHolds s p i access_type.Load → ⊥
  no_load_fence e (j, b, (x, d)) = both_ways (entry s p j).done d (load_free s p i l e j b x)

  module _ (a : ℕ) (has : (entry s p i).address ≡ Some a) where
    -- The address is there.
    no_load_wants : Wants s p i rule.Load → ⊥
    no_load_wants w = some_or_none (entry s p i).address has w

    -- The address and the data are there.
    no_store_wants : (v : ℕ) → (entry s p i).datum ≡ Some v → Wants s p i rule.Store → ⊥
    no_store_wants v x (inl w) = some_or_none (entry s p i).address has w
    no_store_wants v x (inr w) = some_or_none (entry s p i).datum x w

    -- Another address that is available is the same.
    same_address : (b : ℕ) → (entry s p i).address ≡ Some b → b ≡ a
    same_address b h = let z : b ≡ a = cc in z

    module _ (free : FenceHolds s p i access_type.Load → ⊥) where
      -- No access to the cell is open.
      none_holds : nearest (passes (open_to_cell a) (buffer s p)) i ≡ None → Held s p i rule.Load → ⊥
      none_holds e (inl f) = free f
      none_holds e (inr (b, j, h, n, d)) =
          let m : NearestOpen s p i a j = rw (same_address b h) at n in
          none_open s p i l a e j m.older m.open_to_cell

      -- The nearest open access is a store with data, and there is one nearest.
      store_gives : (j v : ℕ) → NearestOpen s p i a j → stores (instruction s p j) ≡ true → (entry s p j).datum ≡ Some v → Held s p i rule.Load → ⊥
      store_gives j v n w d (inl f) = free f
      store_gives j v n w d (inr (b, k, h, m, x)) =
          let m2 : NearestOpen s p i a k = rw (same_address b h) at m in
          let e : j ≡ k = one_nearest s p i a j k n m2 in
          gives k (rw e at w) (rw e at d) x
        where
          gives : (k : ℕ) → stores (instruction s p k) ≡ true → (entry s p k).datum ≡ Some v → (stores (instruction s p k) ≡ false) ⊎ ((entry s p k).datum ≡ None) → ⊥
          gives k w d (inl x) = both_ways (stores (instruction s p k)) x w
          gives k w d (inr x) = some_or_none (entry s p k).datum d x

      -- Rule 5, from an open access.
      forwarded_fits : (j : ℕ) → NearestOpen s p i a j → (d : Option ℕ) → (entry s p j).datum ≡ d → (b : Bool) → stores (instruction s p j) ≡ b →
          Fitting s p i rule.Load (forwarded (buffer s p) i p d b j)
      forwarded_fits j n (Some v) x true y = (no_load_wants, store_gives j v n y x)
      forwarded_fits j n (Some v) x false y = inr (refl, no_load_wants, inr (a, j, has, n, inl y))
      forwarded_fits j n None x true y = inr (refl, no_load_wants, inr (a, j, has, n, inr x))
      forwarded_fits j n None x false y = inr (refl, no_load_wants, inr (a, j, has, n, inl y))

      -- Rule 5, from an open access or from the memory.
      taken_fits : (o : Option ℕ) → nearest (passes (open_to_cell a) (buffer s p)) i ≡ o → Fitting s p i rule.Load (taken_from (buffer s p) i p a o)
      taken_fits None e = (no_load_wants, none_holds e)
      taken_fits (Some j) e = forwarded_fits j (nearest_open s p i l a j e) (entry s p j).datum refl (stores (instruction s p j)) refl

    -- Rule 5, with an address.
    addressed_fits : (o : Option ℕ) → nearest (passes open_fence_to_load (buffer s p)) i ≡ o →
        Fitting s p i rule.Load (unless_held o (taken_from (buffer s p) i p a (nearest (passes (open_to_cell a) (buffer s p)) i)))
    addressed_fits None e = taken_fits (no_load_fence e) (nearest (passes (open_to_cell a) (buffer s p)) i) refl
    addressed_fits (Some j) e = inr (refl, no_load_wants, inl (load_fence_found s p i l j e))

    -- Nothing that holds the store back was found.
    store_let : nearest (passes (holds_store a) (buffer s p)) i ≡ None → Held s p i rule.Store → ⊥
    store_let e (branch_holds (j, b, (x, d))) = both_ways (entry s p j).done d ((store_free s p i l a e j b).turned x)
    store_let e (unknown_holds (j, b, (x, d))) = both_ways (is_some (entry s p j).address) d ((store_free s p i l a e j b).addressed x)
    store_let e (cell_holds c h (j, b, x)) = (store_free s p i l a e j b).cell_free (rw (same_address c h) at x)
    store_let e (fence_holds (j, b, (x, d))) = both_ways (entry s p j).done d ((store_free s p i l a e j b).fence_done x)

    -- Rule 7, with an address.
    stored_fits : (c : ℕ → Change) → (d : Option ℕ) → (entry s p i).datum ≡ d → (o : Option ℕ) → nearest (passes (holds_store a) (buffer s p)) i ≡ o →
        Fitting s p i rule.Store (making (then (wanted d) (λ v. unless_held o (Ok (c v)))))
    stored_fits c None x o e = inl (refl, inr x)
    stored_fits c (Some v) x None e = (no_store_wants v x, store_let e)
    stored_fits c (Some v) x (Some j) e = inr (refl, no_store_wants v x, store_found s p i l a j has e)

  -- Rule 5.
  load_fits : Fitting s p i rule.Load (action rule.Load (buffer s p) p i)
  load_fits = go (entry s p i).address refl
    where
      go : (o : Option ℕ) → (entry s p i).address ≡ o → Fitting s p i rule.Load (then (wanted o) (λ a.
          unless_held (nearest (passes open_fence_to_load (buffer s p)) i) (taken_from (buffer s p) i p a (nearest (passes (open_to_cell a) (buffer s p)) i))))
      go None e = inl (refl, e)
      go (Some a) e = addressed_fits a e (nearest (passes open_fence_to_load (buffer s p)) i) refl

  -- Rule 7.
  store_fits : (c : ℕ → ℕ → Change) → Fitting s p i rule.Store (making (then (wanted (entry s p i).address) (λ a. then (wanted (entry s p i).datum) (λ v.
      unless_held (nearest (passes (holds_store a) (buffer s p)) i) (Ok (c a v))))))
  store_fits c = go (entry s p i).address refl
    where
      go : (o : Option ℕ) → (entry s p i).address ≡ o → Fitting s p i rule.Store (making (then (wanted o) (λ a. then (wanted (entry s p i).datum) (λ v.
          unless_held (nearest (passes (holds_store a) (buffer s p)) i) (Ok (c a v))))))
      go None e = inl (refl, inl e)
      go (Some a) e = stored_fits a e (c a) (entry s p i).datum refl (nearest (passes (holds_store a) (buffer s p)) i) refl

  -- The answer of every rule but a fetch fits.
  pub action_fits : (r : Rule) → (r ≢ rule.Fetch) → Fitting s p i r (action r (buffer s p) p i)
  action_fits rule.Fetch n = absurd (n refl)
  action_fits rule.Arithmetic n = arithmetic_fits _
  action_fits rule.Branch n = by_operand rule.Branch first_operand (λ x. x) (λ x. x) (λ x. x) _
  action_fits rule.Fence n = fence_fits _
  action_fits rule.Load n = load_fits
  action_fits rule.StoreData n = by_operand rule.StoreData second_operand (λ x. x) (λ x. x) (λ x. x) _
  action_fits rule.Store n = store_fits _
  action_fits rule.Address n = by_operand rule.Address first_operand (λ x. x) (λ x. x) (λ x. x) _
