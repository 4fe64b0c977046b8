-- What a guard says of an entry, as the value of the test that the rules search by.
use Rattle.std.proofs.Common.{◌≡◌, ℕ, Bool, true, false, not, ◌&&◌, ◌||◌, ◌⊎◌, is_some, refl, inl, inr}
use Rattle.std.proofs.lemmas.Bool.{and_parts, or_cases, false≢true}
use Rattle.instructions.specs.declared.instruction.AccessType.{AccessType}
use Rattle.instructions.specs.declared.instruction.AccessType.TheVariants as access_type
use Rattle.instructions.specs.declared.instruction.Instruction.{Instruction}
use Rattle.instructions.specs.Kinds.{loads, stores, access, branches, of_type, fence_from, fence_to}
use Rattle.rules.specs.Tests.{same_cell, open_for_fence, open_to_cell, holds_store}
use Rattle.rules.specs.declared.entry.Entry.{Entry}
use Rattle.machine.specs.Fires.{OpenTo}

-- What implies done is not so and not done.
pub unless_done : (a x : Bool) → (a ≡ true → x ≡ true) → (a && not x) ≡ false
unless_done false x h = refl
unless_done true true h = refl
unless_done true false h = absurd (false≢true (h refl))

-- Two tests that do not both pass.
pub not_both : (a x : Bool) → (a ≡ true → x ≡ true → ⊥) → (a && x) ≡ false
not_both false x h = refl
not_both true false h = refl
not_both true true h = absurd (h refl refl)

-- The entry is not an access of the fence's first type that is not done.
pub not_open_for_fence : (f : Instruction) (e : Entry) →
    ((t : AccessType) → fence_from t f ≡ true → of_type t e.instruction ≡ true → e.done ≡ true) → open_for_fence f e ≡ false
not_open_for_fence f e h =
    let l = fence_from access_type.Load f && loads e.instruction in
    let r = fence_from access_type.Store f && stores e.instruction in
    unless_done (l || r) e.done (λ z. go (or_cases l r z))
  where
    go : ((fence_from access_type.Load f && loads e.instruction) ≡ true) ⊎ ((fence_from access_type.Store f && stores e.instruction) ≡ true) → e.done ≡ true
    go (inl a) = let (x, y) = and_parts (fence_from access_type.Load f) (loads e.instruction) a in h access_type.Load x y
    go (inr a) = let (x, y) = and_parts (fence_from access_type.Store f) (stores e.instruction) a in h access_type.Store x y

-- The entry is not an access to the cell that is not done.
pub not_open_to_cell : (a : ℕ) (e : Entry) → (OpenTo a e → ⊥) → open_to_cell a e ≡ false
not_open_to_cell a e h = go (access e.instruction) e.done (same_cell a e.address) (λ x y z. h (x, y, z))
  where
    go : (x y z : Bool) → (x ≡ true → y ≡ false → z ≡ true → ⊥) → (x && (not y && z)) ≡ false
    go false y z f = refl
    go true true z f = refl
    go true false false f = refl
    go true false true f = absurd (f refl refl refl)

-- The entry is an access to the cell that is not done.
pub is_open_to_cell : (a : ℕ) (e : Entry) → OpenTo a e → open_to_cell a e ≡ true
is_open_to_cell a e (x, y, z) = rw (x, y, z) refl

-- The entry does not hold the store back.
pub not_holds_store : (a : ℕ) (e : Entry) → (branches e.instruction ≡ true → e.done ≡ true) →
    (access e.instruction ≡ true → is_some e.address ≡ true) → (OpenTo a e → ⊥) →
    (fence_to access_type.Store e.instruction ≡ true → e.done ≡ true) → holds_store a e ≡ false
not_holds_store a e b c o f =
    rw (
      unless_done (branches e.instruction) e.done b,
      unless_done (access e.instruction) (is_some e.address) c,
      not_open_to_cell a e o,
      unless_done (fence_to access_type.Store e.instruction) e.done f,
    ) refl
