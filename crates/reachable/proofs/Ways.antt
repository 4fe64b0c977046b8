-- In sound code an entry leads to a place of the code or to its end, and so the counter stays within it.
use Rattle.std.proofs.Common.{◌≡◌, ℕ, zero, suc, ◌+◌, ◌-◌, ◌<◌, ◌≤◌, Bool, true, false, cond, eqb, leb, List, [], ◌∷◌, length, refl, ap, ◌∙◌, inl, inr, arith}
use Rattle.std.proofs.lemmas.Bool.{and_parts, leb-true, cases_Bool, cases_lt}
use Rattle.instructions.specs.Effects.{next_place, guessed_place}
use Rattle.instructions.specs.declared.instruction.Instruction.{Instruction}
use Rattle.instructions.specs.declared.instruction.Instruction.TheVariants.{Add, Subtract, Load, Store, Branch, Fence}
use Rattle.machine.specs.Fires.{buffer, entry}
use Rattle.machine.specs.State.{State, core_at}
use Rattle.question.specs.Litmus.{Litmus, code_at, instruction_at}
use Rattle.question.specs.Sound.{operand_sound, instruction_sound, all_sound, code_sound}
use Rattle.rules.specs.declared.entry.Entry.{Entry}
use Rattle.reachable.specs.Checked.{Checked}
use Rattle.reachable.specs.Entries.{EntryKept}
use Rattle.reachable.specs.Places.{Chained}
use Rattle.reachable.proofs.Put.{place_behind}

-- Each instruction of sound code is sound.
sound_at : (n : ℕ) (is : List Instruction) (k : ℕ) → all_sound n is ≡ true → k < length is → instruction_sound n (instruction_at is k) ≡ true
sound_at n [] k h l = absurd (omega arith)
sound_at n (i ∷ is) zero h l = (and_parts (instruction_sound n i) (all_sound n is) h).0
sound_at n (i ∷ is) (suc k) h l = sound_at n is k (and_parts (instruction_sound n i) (all_sound n is) h).1 (omega arith)

-- The instruction at a place of sound code is sound.
code_sound_at : (is : List Instruction) (k : ℕ) → code_sound is ≡ true → k < length is → instruction_sound (length is) (instruction_at is k) ≡ true
unfolding code_sound
code_sound_at is k h l = sound_at (length is) is k h l

-- The place that a sound branch goes to, taken or not.
either_way : (n place j : ℕ) (b : Bool) → j ≤ n → place < n → cond b j (place + 1) ≤ n
either_way n place j true h l = h
either_way n place j false h l = omega arith

-- A sound instruction's guessed place is within the code.
guess_fits : (n place : ℕ) (taken : Bool) (i : Instruction) → instruction_sound n i ≡ true → place < n → guessed_place i place taken ≤ n
guess_fits n place taken (Add d s1 s2 k) h l = omega arith
guess_fits n place taken (Subtract d s1 s2 k) h l = omega arith
guess_fits n place taken (Load d s1 k) h l = omega arith
guess_fits n place taken (Store s1 s2 k j) h l = omega arith
guess_fits n place taken (Branch s1 k j) h l = either_way n place j taken (leb-true j n (and_parts (operand_sound s1) (leb j n) h).1) l
guess_fits n place taken (Fence x y) h l = omega arith

-- The true next place is one of the two ways.
pub true_way : (place x : ℕ) (i : Instruction) → (taken : Bool) × (next_place i place x ≡ guessed_place i place taken)
true_way place x (Add d s1 s2 k) = (true, refl)
true_way place x (Subtract d s1 s2 k) = (true, refl)
true_way place x (Load d s1 k) = (true, refl)
true_way place x (Store s1 s2 k j) = (true, refl)
true_way place x (Branch s1 k j) = (eqb x k, refl)
true_way place x (Fence y z) = (true, refl)

module _ (q : Litmus) (checked : Checked q) where
  -- An entry leads to one of its two ways, done or not.
  pub one_way : (s : State) (p i : ℕ) (e : Entry) → EntryKept q s p i e → (taken : Bool) × (e.next ≡ guessed_place e.instruction e.place taken)
  one_way s p i e k = elim (cases_Bool e.done) [
    | inl h ↦ (let w = (k.finished h).worked_out in
        let (taken, z) = true_way e.place w.first e.instruction in
        (taken, w.next ∙ z))
    | inr h ↦ k.guessed h
  ]

  -- An entry leads to a place of the code or to its end.
  pub leads_within : (s : State) (p i : ℕ) (e : Entry) → EntryKept q s p i e → e.next ≤ length (code_at q p)
  leads_within s p i e k =
      let (taken, z) = one_way s p i e k in
      let sound : instruction_sound (length (code_at q p)) e.instruction ≡ true =
      ap (instruction_sound (length (code_at q p))) k.in_code.there ∙ code_sound_at (code_at q p) e.place (checked.sound p) k.in_code.within in
      omega (arith, z, guess_fits (length (code_at q p)) e.place taken e.instruction sound k.in_code.within)

  -- The counter is at a place of the code or at its end.
  pub counter_within : (s : State) (p : ℕ) → Chained s p → ((i : ℕ) → i < length (buffer s p) → EntryKept q s p i (entry s p i)) →
      (core_at s p).counter ≤ length (code_at q p)
  counter_within s p c all = elim (cases_lt 0 (length (buffer s p))) [
    | inl h ↦ (let i : ℕ = length (buffer s p) - 1 in
        let l : i < length (buffer s p) = omega arith in
        omega (arith, leads_within s p i (entry s p i) (all i l), c.follows i l, place_behind s p (i + 1) (omega arith)))
    | inr h ↦ omega (arith, c.starts, place_behind s p 0 h)
  ]
