-- An instruction that was read is sound.
use Rattle.std.proofs.Common.{◌≡◌, ℕ, Bool, true, false, cond, ◌&&◌, List, [], ◌∷◌, ◌++◌, Ok, Err, sym, refl, subst, inl, inr, arith}
use Rattle.std.proofs.lemmas.Bool.{cases_eq, ne_eqb}
use Rattle.std.proofs.lemmas.Bool.Decides.{nat_tests}
use Rattle.fields.specs.declared.refusal.Refusal.{Refusal}
use Rattle.instructions.specs.declared.instruction.Instruction.{Instruction}
use Rattle.question.specs.Instructions.{Raw, registers_fit, numbers_fit, kind_fits, operand, instruction_from, checked}
use Rattle.question.specs.Sound.{register_sound, operand_sound, instruction_sound, all_sound}
use Rattle.question.specs.Table.{row_of}

module _ (n d s1 s2 k j : ℕ) where
  abbrev raw : ℕ → Raw
  raw kind = record { kind = kind; d = d; s1 = s1; s2 = s2; k = k; j = j }

  -- Fields of this kind that fit are those of a sound instruction.
  abbrev FitsSound : ℕ → Type 0
  FitsSound kind =
      registers_fit (row_of kind) (raw kind) ≡ true → numbers_fit n (row_of kind) (raw kind) ≡ true → instruction_sound n (instruction_from (raw kind)) ≡ true

  three_registers : registers_fit (row_of 1) (raw 1) ≡ true → (register_sound d && (operand_sound (operand s1) && operand_sound (operand s2))) ≡ true
  three_registers h = grind (arith, nat_tests)

  load_fits : FitsSound 3
  load_fits h m = grind (arith, nat_tests)

  store_fits : FitsSound 4
  store_fits h m = grind (arith, nat_tests)

  branch_fits : FitsSound 5
  branch_fits h m = grind (arith, nat_tests)

  fits_sound : (kind : ℕ) → FitsSound kind
  fits_sound kind h m = elim (cases_eq kind 1) [
    | inl e ↦ subst FitsSound (sym e) (λ x y. three_registers x) h m
    | inr p1 ↦ elim (cases_eq kind 2) [
      | inl e ↦ subst FitsSound (sym e) (λ x y. three_registers x) h m
      | inr p2 ↦ elim (cases_eq kind 3) [
        | inl e ↦ subst FitsSound (sym e) load_fits h m
        | inr p3 ↦ elim (cases_eq kind 4) [
          | inl e ↦ subst FitsSound (sym e) store_fits h m
          | inr p4 ↦ elim (cases_eq kind 5) [
            | inl e ↦ subst FitsSound (sym e) branch_fits h m
            | inr p5 ↦ rw (ne_eqb kind 1 p1, ne_eqb kind 2 p2, ne_eqb kind 3 p3, ne_eqb kind 4 p4, ne_eqb kind 5 p5)
          ]
        ]
      ]
    ]
  ]

-- An answer that passed three tests.
passed : (t u v : Bool) (i j : Instruction) (e f g : Refusal) → cond t (cond u (cond v (Ok i) (Err e)) (Err f)) (Err g) ≡ Ok j → (u ≡ true) × (v ≡ true) × (i ≡ j)
passed true true true i j e f g h = (refl, refl, (cc))
passed true true false i j e f g h = cc
passed true false v i j e f g h = cc
passed false u v i j e f g h = cc

pub read_sound : (n : ℕ) (r : Raw) (i : Instruction) → checked n r ≡ Ok i → instruction_sound n i ≡ true
read_sound n r i h =
    let (p, q, e) = passed (kind_fits r.kind) (registers_fit (row_of r.kind) r) (numbers_fit n (row_of r.kind) r) (instruction_from r) i _ _ _ h in
    subst (λ (x : Instruction). instruction_sound n x ≡ true) e (fits_sound n r.d r.s1 r.s2 r.k r.j r.kind p q)

pub sound_push : (n : ℕ) (is : List Instruction) (i : Instruction) → all_sound n is ≡ true → instruction_sound n i ≡ true → all_sound n (is ++ i ∷ []) ≡ true
sound_push n [] i h s = grind (arith, nat_tests)
sound_push n (x ∷ xs) i h s = let t = sound_push n xs i in grind (arith, nat_tests)
