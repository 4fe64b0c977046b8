-- The test that a search for entries of a kind with a cell goes by.
use Rattle.std.proofs.Common.{◌≡◌, ℕ, Bool, true, ◌&&◌, eqb}
use Rattle.std.proofs.lemmas.Bool.{and_parts, and_from, eqb-true, eq-eqb}
use Rattle.instructions.specs.declared.instruction.Instruction.{Instruction}

-- The entry at m is of the kind and its cell has the number a.
unfoldable pub hits : (Instruction → Bool) → (ℕ → Instruction) → (ℕ → ℕ) → ℕ → ℕ → Bool
hits kind ins A a m = kind (ins m) && eqb (A m) a

pub hits_parts : (kind : Instruction → Bool) (ins : ℕ → Instruction) (A : ℕ → ℕ) (a m : ℕ) → hits kind ins A a m ≡ true → (kind (ins m) ≡ true) × (A m ≡ a)
unfolding hits
hits_parts kind ins A a m e = let p = and_parts (kind (ins m)) (eqb (A m) a) e in (p.0, eqb-true (A m) a p.1)

pub hits_from : (kind : Instruction → Bool) (ins : ℕ → Instruction) (A : ℕ → ℕ) (a m : ℕ) → kind (ins m) ≡ true → A m ≡ a → hits kind ins A a m ≡ true
unfolding hits
hits_from kind ins A a m y e = and_from (kind (ins m)) (eqb (A m) a) y (eq-eqb (A m) a e)
