-- An instruction is refused for its kind and registers first, then for its numbers.
use Rattle.std.proofs.Common.{◌≡◌, ℕ, ◌≤◌, Bool, true, false, cond, ◌&&◌, ◌||◌, eqb, ltb, leb, ◌↔◌, List, get_or, Ok, Err, Decides, Result, sym, refl, arith}
use Rattle.std.proofs.lemmas.Bool.{true≢false, false≢true, eqb-true, eqb-false, leb-true, le-leb}
use Rattle.std.proofs.lemmas.Bool.Decides.{Decides-eqb, Decides-ltb, Decides-and, Decides-or, Decides-like}
use Rattle.fields.specs.declared.refusal.Refusal.{Refusal}
use Rattle.fields.specs.declared.refusal.Refusal.TheVariants.{KindOrRegisterNotAllowed, NumberNotAllowed}
use Rattle.fields.specs.Fields.{word}
use Rattle.instructions.specs.declared.instruction.Instruction.{Instruction}
use Rattle.question.specs.Table.{row_of}
use Rattle.question.specs.Instructions.{raw_of, kind_fits, register_fits, registers_fit, numbers_fit, instruction_from, instruction_of}
use Rattle.question.specs.Means.{TargetAllowed, OperandAllowed, RegistersAllowed, NumbersAllowed, InstructionRefusedForItsFirstFault}

-- A choice of two tests decides what each asks in its case.
decides_choice : {P Q : Type 0} (used x y : Bool) → Decides x P → Decides y Q → Decides (cond used x y) ((used ≡ true → P) × (used ≡ false → Q))
decides_choice true x y p q = (λ h. (λ _. p.0 h, λ z. absurd (true≢false z)), λ a. p.1 (a.0 refl))
decides_choice false x y p q = (λ h. (λ z. absurd (false≢true z), λ _. q.0 h), λ a. q.1 (a.1 refl))

-- A test that is made only where a field is not used.
decides_unused : {P : Type 0} (used x : Bool) → Decides x P → Decides (used || x) (used ≡ false → P)
decides_unused true x p = (λ h z. absurd (true≢false z), λ a. refl)
decides_unused false x p = (λ h z. p.0 h, λ a. p.1 (a refl))

-- A test that is made only of one kind.
decides_at_kind : {P : Type 0} (kind m : ℕ) (x : Bool) → Decides x P → Decides (cond (eqb kind m) x true) (kind ≡ m → P)
decides_at_kind {P} kind m x p = go (eqb kind m) refl
  where
    go : (t : Bool) → eqb kind m ≡ t → Decides (cond t x true) (kind ≡ m → P)
    go true e = (λ h z. p.0 h, λ a. p.1 (a (eqb-true kind m e)))
    go false e = (λ h z. absurd (eqb-false kind m e z), λ a. refl)

-- The test of a target byte.
decides_target : (used : Bool) (byte : ℕ) → Decides (register_fits used false byte) (TargetAllowed used byte)
decides_target used byte = decides_choice used (ltb byte 8 || false) (eqb byte 255) (only (ltb byte 8) (Decides-ltb byte 8)) (Decides-eqb byte 255)
  where
    only : {P : Type 0} (x : Bool) → Decides x P → Decides (x || false) P
    only true p = p
    only false p = p

-- The test of an operand byte.
decides_operand : (used : Bool) (byte : ℕ) → Decides (register_fits used true byte) (OperandAllowed used byte)
decides_operand used byte =
    decides_choice used (ltb byte 8 || eqb byte 255) (eqb byte 255)
    (Decides-or (ltb byte 8) (eqb byte 255) (Decides-ltb byte 8) (Decides-eqb byte 255)) (Decides-eqb byte 255)

-- The test of the kind.
decides_kind : (kind : ℕ) → Decides (kind_fits kind) ((1 ≤ kind) × (kind ≤ 6))
decides_kind kind =
    Decides-like (kind_fits kind) (λ h. (omega arith, omega arith)) (λ h. (omega arith, omega arith))
    (Decides-and (ltb 0 kind) (ltb kind 7) (Decides-ltb 0 kind) (Decides-ltb kind 7))

module _ (b : List ℕ) where
  -- The kind of eight bytes.
  abbrev kind_of : ℕ
  kind_of = get_or b 0 0

  -- The tests of the kind and of the register bytes decide whether those are allowed.
  decides_registers : Decides (kind_fits kind_of && registers_fit (row_of kind_of) (raw_of b)) (RegistersAllowed b)
  decides_registers =
      let r = row_of kind_of in
      Decides-like _ (λ h. record { kind = h.0; d = h.1.0; s1 = h.1.1.0; s2 = h.1.1.1 }) (λ a. (a.kind, (a.d, (a.s1, a.s2))))
      (Decides-and _ _ (decides_kind kind_of)
      (Decides-and _ _ (decides_target r.d (get_or b 1 0))
      (Decides-and _ _ (decides_operand r.s1 (get_or b 2 0)) (decides_operand r.s2 (get_or b 3 0)))))

  -- The tests of the numbers decide whether those are allowed.
  decides_numbers : (n : ℕ) → Decides (numbers_fit n (row_of kind_of) (raw_of b)) (NumbersAllowed n b)
  decides_numbers n =
      let r = row_of kind_of in
      let k = word (get_or b 4 0) (get_or b 5 0) in
      let j = word (get_or b 6 0) (get_or b 7 0) in
      Decides-like _ (λ h. record { k_unused = h.0; j_unused = h.1.0; branch = h.1.1.0; fence = h.1.1.1 }) (λ a. (a.k_unused, (a.j_unused, (a.branch, a.fence))))
      (Decides-and _ _ (decides_unused r.k (eqb k 0) (Decides-eqb k 0))
      (Decides-and _ _ (decides_unused r.j (eqb j 0) (Decides-eqb j 0))
      (Decides-and _ _ (decides_at_kind kind_of 5 (leb j n) (leb-true j n, le-leb j n)) (decides_at_kind kind_of 6 (ltb k 4) (Decides-ltb k 4)))))

-- An instruction is not a refusal.
not_refused : (i : Instruction) (e : Refusal) → ◌≡◌ {A = Result Instruction Refusal} (Ok i) (Err e) → ⊥
not_refused i e h = let z : ◌≡◌ {A = ℕ} 0 1 = cc in omega arith

-- The two refusals differ.
refusals_differ : ◌≡◌ {A = Result Instruction Refusal} (Err KindOrRegisterNotAllowed) (Err NumberNotAllowed) → ⊥
refusals_differ h = let z : ◌≡◌ {A = ℕ} 0 1 = cc in omega arith

-- Tests made in order refuse for the first that fails.
refused_in_order : {P Q : Type 0} (i : Instruction) (t u v : Bool) → Decides (t && u) P → Decides v Q →
    let a : Result Instruction Refusal = cond t (cond u (cond v (Ok i) (Err NumberNotAllowed)) (Err KindOrRegisterNotAllowed)) (Err KindOrRegisterNotAllowed) in
    ((a ≡ Err KindOrRegisterNotAllowed) ↔ (P → ⊥)) × ((a ≡ Err NumberNotAllowed) ↔ (P × (Q → ⊥)))
refused_in_order i true true true p q =
    ((λ h. absurd (not_refused i _ h), λ f. absurd (f (p.0 refl))), (λ h. absurd (not_refused i _ h), λ f. absurd (f.1 (q.0 refl))))
refused_in_order i true true false p q =
    ((λ h. absurd (refusals_differ (sym h)), λ f. absurd (f (p.0 refl))), (λ h. (p.0 refl, λ y. false≢true (q.1 y)), λ f. refl))
refused_in_order i true false v p q =
    ((λ h x. false≢true (p.1 x), λ f. refl), (λ h. absurd (refusals_differ h), λ f. absurd (false≢true (p.1 f.0))))
refused_in_order i false u v p q =
    ((λ h x. false≢true (p.1 x), λ f. refl), (λ h. absurd (refusals_differ h), λ f. absurd (false≢true (p.1 f.0))))

-- An instruction is refused for its kind or a register exactly if those are not allowed, and for a number exactly if only those are not.
pub instruction_refused_for_its_first_fault : InstructionRefusedForItsFirstFault
unfolding instruction_of
instruction_refused_for_its_first_fault n b =
    refused_in_order (instruction_from (raw_of b)) (kind_fits (get_or b 0 0)) (registers_fit (row_of (get_or b 0 0)) (raw_of b))
    (numbers_fit n (row_of (get_or b 0 0)) (raw_of b)) (decides_registers b) (decides_numbers b n)
