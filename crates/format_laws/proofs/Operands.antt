-- Operands and fences, and the bytes and numbers that stand for them.
use Rattle.std.proofs.Common.{◌≡◌, ℕ, zero, suc, Bool, true, false, cond, ◌||◌, eqb, ltb, Some, None, Option, refl, ◌∙◌, arith}
use Rattle.std.proofs.lemmas.Bool.{ltb-true, eqb-true, ne_eqb}
use Rattle.instructions.specs.declared.instruction.AccessType.{AccessType}
use Rattle.instructions.specs.declared.instruction.AccessType.TheVariants as access
use Rattle.question.specs.Sound.{operand_sound}
use Rattle.question.specs.Instructions.{register_fits, operand, operand_byte, fence_before, fence_after, fence_number}

-- The byte of a sound operand fits where an operand may be absent.
pub operand_fits : (o : Option ℕ) → operand_sound o ≡ true → register_fits true true (operand_byte o) ≡ true
operand_fits None h = refl
operand_fits (Some r) h = rw h

-- A sound operand is the operand of its byte.
pub operand_back : (o : Option ℕ) → operand_sound o ≡ true → operand (operand_byte o) ≡ o
operand_back None h = refl
operand_back (Some r) h = rw (ne_eqb r 255 (λ e. let l = ltb-true r 8 h in omega arith))

-- The operand of a byte has that byte.
pub operand_byte_back : (x : ℕ) → operand_byte (operand x) ≡ x
operand_byte_back x = go (eqb x 255) refl
  where
    go : (t : Bool) → eqb x 255 ≡ t → operand_byte (cond t None (Some x)) ≡ x
    go true e = let p = eqb-true x 255 e in rw p
    go false e = refl

-- The operand of a byte that fits is sound.
pub operand_sound_from : (x : ℕ) → register_fits true true x ≡ true → operand_sound (operand x) ≡ true
operand_sound_from x h = go (eqb x 255) refl (ltb x 8) refl h
  where
    go : (t : Bool) → eqb x 255 ≡ t → (u : Bool) → ltb x 8 ≡ u → (u || t) ≡ true → operand_sound (cond t None (Some x)) ≡ true
    go true e u f h = refl
    go false e true f h = f
    go false e false f h = f ∙ h

-- The first access of a fence comes back from its number.
pub fence_before_back : (a b : AccessType) → fence_before (fence_number a b) ≡ a
fence_before_back access.Load access.Load = refl
fence_before_back access.Load access.Store = refl
fence_before_back access.Store access.Load = refl
fence_before_back access.Store access.Store = refl

-- The second access of a fence comes back from its number.
pub fence_after_back : (a b : AccessType) → fence_after (fence_number a b) ≡ b
fence_after_back access.Load access.Load = refl
fence_after_back access.Load access.Store = refl
fence_after_back access.Store access.Load = refl
fence_after_back access.Store access.Store = refl

-- There are four fences.
pub fence_number_below : (a b : AccessType) → ltb (fence_number a b) 4 ≡ true
fence_number_below access.Load access.Load = refl
fence_number_below access.Load access.Store = refl
fence_number_below access.Store access.Load = refl
fence_number_below access.Store access.Store = refl

-- A number below four is the number of its fence.
pub fence_number_back : (k : ℕ) → ltb k 4 ≡ true → fence_number (fence_before k) (fence_after k) ≡ k
fence_number_back zero h = refl
fence_number_back (suc zero) h = refl
fence_number_back (suc (suc zero)) h = refl
fence_number_back (suc (suc (suc zero))) h = refl
fence_number_back (suc (suc (suc (suc k)))) h = absurd (let l = ltb-true _ 4 h in omega arith)
