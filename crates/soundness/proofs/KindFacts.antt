-- What the kinds of instructions exclude and include, for the guards of the rules.
use Rattle.std.proofs.Common.{◌≡◌, ℕ, Bool, true, false, ◌||◌, ◌⊎◌, None, sym, refl, ◌∙◌, inl, inr, arith}
use Rattle.instructions.specs.Effects.{next_place, guessed_place}
use Rattle.instructions.specs.Kinds.{loads, stores, access, computes, branches, fences, of_type, fence_from, first_operand, second_operand}
use Rattle.instructions.specs.declared.instruction.AccessType.{AccessType}
use Rattle.instructions.specs.declared.instruction.Instruction.{Instruction}
use Rattle.instructions.specs.declared.instruction.Instruction.TheVariants.{Add, Subtract, Load, Store, Branch, Fence}

-- No test answers both.
pub true_not_false : true ≡ false → ⊥
true_not_false e = let z : ◌≡◌ {A = ℕ} 0 1 = cc in omega arith

pub or_split : (a b : Bool) → (a || b) ≡ true → (a ≡ true) ⊎ (b ≡ true)
or_split true b e = inl refl
or_split false b e = inr e

pub or_left : (a b : Bool) → a ≡ true → (a || b) ≡ true
or_left true b e = refl
or_left false b e = absurd (true_not_false (sym e))

pub or_right : (a b : Bool) → b ≡ true → (a || b) ≡ true
or_right true b e = refl
or_right false b e = e

pub load_access : (x : Instruction) → loads x ≡ true → access x ≡ true
load_access x e = or_left (loads x) (stores x) e

pub store_access : (x : Instruction) → stores x ≡ true → access x ≡ true
store_access x e = or_right (loads x) (stores x) e

pub access_split : (x : Instruction) → access x ≡ true → (loads x ≡ true) ⊎ (stores x ≡ true)
access_split x e = or_split (loads x) (stores x) e

-- A load does not store.
pub load_no_store : (x : Instruction) → loads x ≡ true → stores x ≡ true → ⊥
load_no_store (Add d s1 s2 k) l s = true_not_false (sym l)
load_no_store (Subtract d s1 s2 k) l s = true_not_false (sym l)
load_no_store (Load d s1 k) l s = true_not_false (sym s)
load_no_store (Store s1 s2 k j) l s = true_not_false (sym l)
load_no_store (Branch s1 k j) l s = true_not_false (sym l)
load_no_store (Fence a b) l s = true_not_false (sym l)

-- An access is no branch.
pub access_no_branch : (x : Instruction) → access x ≡ true → branches x ≡ false
access_no_branch (Add d s1 s2 k) e = refl
access_no_branch (Subtract d s1 s2 k) e = refl
access_no_branch (Load d s1 k) e = refl
access_no_branch (Store s1 s2 k j) e = refl
access_no_branch (Branch s1 k j) e = sym e
access_no_branch (Fence a b) e = refl

-- An access does not compute.
pub access_no_result : (x : Instruction) → access x ≡ true → computes x ≡ true → ⊥
access_no_result (Add d s1 s2 k) e c = true_not_false (sym e)
access_no_result (Subtract d s1 s2 k) e c = true_not_false (sym e)
access_no_result (Load d s1 k) e c = true_not_false (sym c)
access_no_result (Store s1 s2 k j) e c = true_not_false (sym c)
access_no_result (Branch s1 k j) e c = true_not_false (sym c)
access_no_result (Fence a b) e c = true_not_false (sym c)

-- What computes is no access, nor is a branch, nor a fence.
pub computes_no_access : (x : Instruction) → computes x ≡ true → access x ≡ true → ⊥
computes_no_access x c e = access_no_result x e c

pub branch_no_access : (x : Instruction) → branches x ≡ true → access x ≡ true → ⊥
branch_no_access x b e = true_not_false (sym b ∙ access_no_branch x e)

pub fence_no_access : (x : Instruction) → fences x ≡ true → access x ≡ true → ⊥
fence_no_access (Add d s1 s2 k) f e = true_not_false (sym f)
fence_no_access (Subtract d s1 s2 k) f e = true_not_false (sym f)
fence_no_access (Load d s1 k) f e = true_not_false (sym f)
fence_no_access (Store s1 s2 k j) f e = true_not_false (sym f)
fence_no_access (Branch s1 k j) f e = true_not_false (sym f)
fence_no_access (Fence a b) f e = true_not_false (sym e)

-- Only a fence puts accesses before itself or after.
pub fence_from_fences : (t : AccessType) (x : Instruction) → fence_from t x ≡ true → fences x ≡ true
fence_from_fences t (Add d s1 s2 k) e = e
fence_from_fences t (Subtract d s1 s2 k) e = e
fence_from_fences t (Load d s1 k) e = e
fence_from_fences t (Store s1 s2 k j) e = e
fence_from_fences t (Branch s1 k j) e = e
fence_from_fences t (Fence a b) e = refl

-- An access of a type is an access.
pub type_access : (t : AccessType) (x : Instruction) → of_type t x ≡ true → access x ≡ true
type_access AccessType.Load x e = load_access x e
type_access AccessType.Store x e = store_access x e

-- A load and a branch have one operand, a fence none.
pub load_second : (x : Instruction) → loads x ≡ true → second_operand x ≡ None
load_second (Add d s1 s2 k) e = absurd (true_not_false (sym e))
load_second (Subtract d s1 s2 k) e = absurd (true_not_false (sym e))
load_second (Load d s1 k) e = refl
load_second (Store s1 s2 k j) e = absurd (true_not_false (sym e))
load_second (Branch s1 k j) e = refl
load_second (Fence a b) e = refl

pub branch_second : (x : Instruction) → branches x ≡ true → second_operand x ≡ None
branch_second (Add d s1 s2 k) e = absurd (true_not_false (sym e))
branch_second (Subtract d s1 s2 k) e = absurd (true_not_false (sym e))
branch_second (Load d s1 k) e = refl
branch_second (Store s1 s2 k j) e = absurd (true_not_false (sym e))
branch_second (Branch s1 k j) e = refl
branch_second (Fence a b) e = refl

pub fence_operands : (x : Instruction) → fences x ≡ true → (first_operand x ≡ None) × (second_operand x ≡ None)
fence_operands (Add d s1 s2 k) e = absurd (true_not_false (sym e))
fence_operands (Subtract d s1 s2 k) e = absurd (true_not_false (sym e))
fence_operands (Load d s1 k) e = absurd (true_not_false (sym e))
fence_operands (Store s1 s2 k j) e = absurd (true_not_false (sym e))
fence_operands (Branch s1 k j) e = absurd (true_not_false (sym e))
fence_operands (Fence a b) e = (refl, refl)

-- A guess matters at a branch only.
pub guess_is_next : (x : Instruction) (place v : ℕ) (taken : Bool) → branches x ≡ false → guessed_place x place taken ≡ next_place x place v
guess_is_next (Add d s1 s2 k) place v taken e = refl
guess_is_next (Subtract d s1 s2 k) place v taken e = refl
guess_is_next (Load d s1 k) place v taken e = refl
guess_is_next (Store s1 s2 k j) place v taken e = refl
guess_is_next (Branch s1 k j) place v taken e = absurd (true_not_false e)
guess_is_next (Fence a b) place v taken e = refl
