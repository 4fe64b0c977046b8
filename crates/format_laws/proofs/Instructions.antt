-- An instruction is read from exactly its own eight bytes.
use Rattle.std.proofs.Common.{◌≡◌, ℕ, zero, suc, ◌/◌, ◌%◌, ◌<◌, Bool, true, false, cond, ◌&&◌, ◌||◌, eqb, ltb, leb, List, [], ◌∷◌, length, get_or, Ok, Err, sym, refl, subst, inl, inr, arith}
use Rattle.std.specs.List.{AllByRecursion}
use Rattle.std.proofs.lemmas.List.FromFn.{fill_by_all}
use Rattle.std.proofs.ByRecursion.{All-get_or}
use Rattle.std.proofs.lemmas.Bool.{ltb-true, eqb-true, false≢true, and_parts, or_cases}
use Rattle.fields.specs.declared.refusal.Refusal.TheVariants.{KindOrRegisterNotAllowed, NumberNotAllowed}
use Rattle.fields.specs.Fields.{word}
use Rattle.fields.proofs.Relations.{word_joined}
use Rattle.instructions.specs.declared.instruction.Instruction.{Instruction}
use Rattle.instructions.specs.declared.instruction.Instruction.TheVariants.{Add, Subtract, Load, Store, Branch, Fence}
use Rattle.question.specs.Sound.{register_sound, operand_sound, instruction_sound}
use Rattle.question.specs.Table.{row_of}
use Rattle.question.specs.Instructions.{raw_of, kind_fits, register_fits, registers_fit, numbers_fit, instruction_from, instruction_of, fence_number, instruction_bytes}
use Rattle.format_laws.proofs.Operands.{operand_fits, operand_back, operand_byte_back, operand_sound_from, fence_before_back, fence_after_back, fence_number_below, fence_number_back}

-- A sound instruction is read from its bytes.
pub instruction_read : (n : ℕ) (i : Instruction) → instruction_sound n i ≡ true → instruction_of n (instruction_bytes i) ≡ Ok i
unfolding instruction_of
instruction_read n (Add d s1 s2 k) h =
    let p = and_parts (register_sound d) (operand_sound s1 && operand_sound s2) h in
    let q = and_parts (operand_sound s1) (operand_sound s2) p.1 in
    rw (p.0, operand_fits s1 q.0, operand_fits s2 q.1, word_joined k, operand_back s1 q.0, operand_back s2 q.1)
instruction_read n (Subtract d s1 s2 k) h =
    let p = and_parts (register_sound d) (operand_sound s1 && operand_sound s2) h in
    let q = and_parts (operand_sound s1) (operand_sound s2) p.1 in
    rw (p.0, operand_fits s1 q.0, operand_fits s2 q.1, word_joined k, operand_back s1 q.0, operand_back s2 q.1)
instruction_read n (Load d s1 k) h =
    let p = and_parts (register_sound d) (operand_sound s1) h in
    rw (p.0, operand_fits s1 p.1, word_joined k, operand_back s1 p.1)
instruction_read n (Store s1 s2 k j) h =
    let q = and_parts (operand_sound s1) (operand_sound s2) h in
    rw (operand_fits s1 q.0, operand_fits s2 q.1, word_joined k, word_joined j, operand_back s1 q.0, operand_back s2 q.1)
instruction_read n (Branch s1 k j) h =
    let q = and_parts (operand_sound s1) (leb j n) h in
    rw (operand_fits s1 q.0, word_joined k, word_joined j, q.1, operand_back s1 q.0)
instruction_read n (Fence before after) h =
    rw (word_joined (fence_number before after), fence_number_below before after, fence_before_back before after, fence_after_back before after)

-- Eight bytes pass every test, and are this instruction.
record Passed (n : ℕ) (b : List ℕ) (i : Instruction) : Type 0 where
  kind : kind_fits (get_or b 0 0) ≡ true
  registers : registers_fit (row_of (get_or b 0 0)) (raw_of b) ≡ true
  numbers : numbers_fit n (row_of (get_or b 0 0)) (raw_of b) ≡ true
  is : instruction_from (raw_of b) ≡ i

-- Eight bytes that are read pass every test.
instruction_passed : (n : ℕ) (b : List ℕ) (i : Instruction) → instruction_of n b ≡ Ok i → Passed n b i
unfolding instruction_of
instruction_passed n b i h =
    go (kind_fits (get_or b 0 0)) (registers_fit (row_of (get_or b 0 0)) (raw_of b)) (numbers_fit n (row_of (get_or b 0 0)) (raw_of b)) refl refl refl h
  where
    go : (t u v : Bool) → kind_fits (get_or b 0 0) ≡ t → registers_fit (row_of (get_or b 0 0)) (raw_of b) ≡ u →
        numbers_fit n (row_of (get_or b 0 0)) (raw_of b) ≡ v →
        cond t (cond u (cond v (Ok (instruction_from (raw_of b))) (Err NumberNotAllowed)) (Err KindOrRegisterNotAllowed)) (Err KindOrRegisterNotAllowed) ≡ Ok i →
        Passed n b i
    go true true true p q r h = record { kind = p; registers = q; numbers = r; is = cc }
    go true true false p q r h = absurd (let z : ◌≡◌ {A = ℕ} 0 1 = cc in omega arith)
    go true false v p q r h = absurd (let z : ◌≡◌ {A = ℕ} 0 1 = cc in omega arith)
    go false u v p q r h = absurd (let z : ◌≡◌ {A = ℕ} 0 1 = cc in omega arith)

-- The high byte comes back from the number of two bytes.
word_high : (high low : ℕ) → low < 256 → word high low / 256 ≡ high
word_high high low l = omega arith

-- The low byte comes back from the number of two bytes.
word_low : (high low : ℕ) → low < 256 → word high low % 256 ≡ low
word_low high low l = omega arith

-- Two bytes that are the number 0.
word_none : (high low : ℕ) → eqb (word high low) 0 ≡ true → (high ≡ 0) × (low ≡ 0)
word_none high low h = let e = eqb-true (word high low) 0 h in (omega arith, omega arith)

-- There are six kinds.
kind_below : (kind : ℕ) → kind_fits kind ≡ true → kind < 7
kind_below kind h = ltb-true kind 7 (and_parts (ltb 0 kind) (ltb kind 7) h).1

-- A register byte that has to be a register.
register_from : (x : ℕ) → (ltb x 8 || false) ≡ true → register_sound x ≡ true
register_from x h = elim (or_cases (ltb x 8) false h) [ inl e ↦ e | inr e ↦ absurd (false≢true e) ]

-- These bytes are those of this instruction, and it is sound.
abbrev pub States : ℕ → List ℕ → Instruction → Type 0
States n b i = (b ≡ instruction_bytes i) × (instruction_sound n i ≡ true)

-- Where three tests together pass, each does.
three_parts : (x y z : Bool) → (x && (y && z)) ≡ true → (x ≡ true) × (y ≡ true) × (z ≡ true)
three_parts x y z h = let p = and_parts x (y && z) h in let q = and_parts y z p.1 in (p.0, q.0, q.1)

module _ (n d s1 s2 k1 k0 j1 j0 : ℕ) (i : Instruction) (k : k0 < 256) (j : j0 < 256) where
  -- The bytes behind the kind.
  abbrev behind : List ℕ
  behind = d ∷ s1 ∷ s2 ∷ k1 ∷ k0 ∷ j1 ∷ j0 ∷ []

  -- Bytes that state an addition.
  add_states : Passed n (1 ∷ behind) i → States n (1 ∷ behind) i
  add_states p =
      let r = three_parts (register_fits true false d) (register_fits true true s1) (register_fits true true s2) p.registers in
      let z = word_none j1 j0 (and_parts _ true p.numbers).0 in
      rw (← p.is, operand_byte_back s1, operand_byte_back s2, word_high k1 k0 k, word_low k1 k0 k, z.0, z.1)
      (refl, rw (register_from d r.0, operand_sound_from s1 r.1, operand_sound_from s2 r.2))

  -- Bytes that state a subtraction.
  subtract_states : Passed n (2 ∷ behind) i → States n (2 ∷ behind) i
  subtract_states p =
      let r = three_parts (register_fits true false d) (register_fits true true s1) (register_fits true true s2) p.registers in
      let z = word_none j1 j0 (and_parts _ true p.numbers).0 in
      rw (← p.is, operand_byte_back s1, operand_byte_back s2, word_high k1 k0 k, word_low k1 k0 k, z.0, z.1)
      (refl, rw (register_from d r.0, operand_sound_from s1 r.1, operand_sound_from s2 r.2))

  -- Bytes that state a load.
  load_states : Passed n (3 ∷ behind) i → States n (3 ∷ behind) i
  load_states p =
      let r = three_parts (register_fits true false d) (register_fits true true s1) (register_fits false true s2) p.registers in
      let z = word_none j1 j0 (and_parts _ true p.numbers).0 in
      rw (← p.is, operand_byte_back s1, eqb-true s2 255 r.2, word_high k1 k0 k, word_low k1 k0 k, z.0, z.1)
      (refl, rw (register_from d r.0, operand_sound_from s1 r.1))

  -- Bytes that state a store.
  store_states : Passed n (4 ∷ behind) i → States n (4 ∷ behind) i
  store_states p =
      let r = three_parts (register_fits false false d) (register_fits true true s1) (register_fits true true s2) p.registers in
      rw (← p.is, operand_byte_back s1, operand_byte_back s2, eqb-true d 255 r.0, word_high k1 k0 k, word_low k1 k0 k, word_high j1 j0 j, word_low j1 j0 j)
      (refl, rw (operand_sound_from s1 r.1, operand_sound_from s2 r.2))

  -- Bytes that state a branch.
  branch_states : Passed n (5 ∷ behind) i → States n (5 ∷ behind) i
  branch_states p =
      let r = three_parts (register_fits false false d) (register_fits true true s1) (register_fits false true s2) p.registers in
      let l = and_parts (leb (word j1 j0) n) true p.numbers in
      rw (← p.is, operand_byte_back s1, eqb-true d 255 r.0, eqb-true s2 255 r.2, word_high k1 k0 k, word_low k1 k0 k, word_high j1 j0 j, word_low j1 j0 j)
      (refl, rw (operand_sound_from s1 r.1, l.0))

  -- Bytes that state a fence.
  fence_states : Passed n (6 ∷ behind) i → States n (6 ∷ behind) i
  fence_states p =
      let r = three_parts (register_fits false false d) (register_fits false true s1) (register_fits false true s2) p.registers in
      let l = and_parts (eqb (word j1 j0) 0) (ltb (word k1 k0) 4) p.numbers in
      let z = word_none j1 j0 l.0 in
      rw (
        ← p.is,
        eqb-true d 255 r.0,
        eqb-true s1 255 r.1,
        eqb-true s2 255 r.2,
        fence_number_back (word k1 k0) l.1,
        word_high k1 k0 k,
        word_low k1 k0 k,
        z.0,
        z.1,
      )
      (refl, refl)

  -- Bytes that are read state what they are read as.
  kind_states : (kind : ℕ) → Passed n (kind ∷ behind) i → States n (kind ∷ behind) i
  kind_states zero p = absurd (false≢true p.kind)
  kind_states (suc zero) p = add_states p
  kind_states (suc (suc zero)) p = subtract_states p
  kind_states (suc (suc (suc zero))) p = load_states p
  kind_states (suc (suc (suc (suc zero)))) p = store_states p
  kind_states (suc (suc (suc (suc (suc zero))))) p = branch_states p
  kind_states (suc (suc (suc (suc (suc (suc zero)))))) p = fence_states p
  kind_states (suc (suc (suc (suc (suc (suc (suc m))))))) p =
      absurd (let l = kind_below (suc (suc (suc (suc (suc (suc (suc m))))))) p.kind in omega arith)

-- Eight bytes, one by one.
abbrev listed : List ℕ → List ℕ
listed b = get_or b 0 0 ∷ get_or b 1 0 ∷ get_or b 2 0 ∷ get_or b 3 0 ∷ get_or b 4 0 ∷ get_or b 5 0 ∷ get_or b 6 0 ∷ get_or b 7 0 ∷ []

-- Eight bytes are their list.
eight_listed : (b : List ℕ) → length b ≡ 8 → b ≡ listed b
eight_listed b l = fill_by_all (λ k. get_or b k 0) b 8 0 l (λ k _. refl)

-- Eight bytes that are read are those of a sound instruction.
pub instruction_states : (n : ℕ) (b : List ℕ) (i : Instruction) → length b ≡ 8 → AllByRecursion (λ x. x < 256) b → instruction_of n b ≡ Ok i → States n b i
unfolding instruction_of
instruction_states n b i l w h =
    let at = λ (k : ℕ) (s : k < length b). All-get_or (λ x. x < 256) b k 0 s w in
    subst (λ c. States n c i) (sym (eight_listed b l))
    (kind_states n (get_or b 1 0) (get_or b 2 0) (get_or b 3 0) (get_or b 4 0) (get_or b 5 0) (get_or b 6 0) (get_or b 7 0) i
    (at 5 (omega arith)) (at 7 (omega arith)) (get_or b 0 0) (instruction_passed n (listed b) i h))
