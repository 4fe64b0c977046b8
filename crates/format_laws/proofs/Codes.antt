-- A processor's instructions are read from exactly their own bytes.
use Rattle.std.proofs.Common.{◌≡◌, ℕ, zero, suc, ◌*◌, ◌/◌, ◌%◌, ◌<◌, true, eqb, leb, List, [], ◌∷◌, ◌++◌, length, take, drop, Ok, sym, refl, ap, ◌∙◌, arith}
use Rattle.std.specs.List.{flat_map, AllByRecursion}
use Rattle.std.proofs.ByRecursion.{All-take, All-drop}
use Rattle.std.proofs.lemmas.List.{length-append, length-drop, length-take-le, take_at, drop_at, take-append-drop, nil_from_length}
use Rattle.std.proofs.lemmas.Bool.{leb-true, eqb-true, le-leb, eq-eqb, and_from, and_parts}
use Rattle.fields.specs.Rows.{then}
use Rattle.fields.proofs.Rows.{then_ok}
use Rattle.instructions.specs.declared.instruction.Instruction.{Instruction}
use Rattle.instructions.specs.declared.instruction.Instruction.TheVariants.{Add, Subtract, Load, Store, Branch, Fence}
use Rattle.question.specs.Sound.{instruction_sound, all_sound, code_sound}
use Rattle.question.specs.Instructions.{instruction_of, instruction_bytes}
use Rattle.question.specs.Codes.{code_from, code_of, code_fits}
use Rattle.question.specs.Means.{CodeAllowed}
use Rattle.format_laws.proofs.Instructions.{instruction_read, instruction_states}

-- An instruction has eight bytes.
length_instruction : (i : Instruction) → length (instruction_bytes i) ≡ 8
length_instruction (Add d s1 s2 k) = refl
length_instruction (Subtract d s1 s2 k) = refl
length_instruction (Load d s1 k) = refl
length_instruction (Store s1 s2 k j) = refl
length_instruction (Branch s1 k j) = refl
length_instruction (Fence before after) = refl

-- So many instructions have eight times as many bytes.
pub length_code : (is : List Instruction) → length (flat_map instruction_bytes is) ≡ 8 * length is
length_code [] = refl
length_code (i ∷ is) =
    let l = length_instruction i in
    let m = length_code is in
    simp length-append (omega arith)

-- Sound instructions are read from their bytes.
code_read : (n : ℕ) (is : List Instruction) → all_sound n is ≡ true → code_from n (length is) (flat_map instruction_bytes is) ≡ Ok is
unfolding code_from
code_read n [] h = refl
code_read n (i ∷ is) h =
    let p = and_parts (instruction_sound n i) (all_sound n is) h in
    let l = length_instruction i in
    rw (
      take_at (instruction_bytes i) (flat_map instruction_bytes is) 8 l,
      drop_at (instruction_bytes i) (flat_map instruction_bytes is) 8 l,
      instruction_read n i p.0,
      code_read n is p.1,
    )

-- These bytes are those of these m sound instructions.
record Coded (n m : ℕ) (b : List ℕ) (is : List Instruction) : Type 0 where
  bytes : b ≡ flat_map instruction_bytes is
  many : length is ≡ m
  sound : all_sound n is ≡ true

-- Bytes that are read as instructions are theirs.
code_states : (n m : ℕ) (b : List ℕ) (is : List Instruction) → length b ≡ 8 * m → AllByRecursion (λ x. x < 256) b → code_from n m b ≡ Ok is → Coded n m b is
unfolding code_from
code_states n zero b is l w h =
    let e : is ≡ [] = cc in
    rw (e, nil_from_length b (omega arith)) (record { bytes = refl; many = refl; sound = refl })
code_states n (suc m) b is l w h =
    let p = then_ok (instruction_of n (take 8 b)) (λ i. then (code_from n m (drop 8 b)) (λ is. Ok (i ∷ is))) is h in
    let i = p.0 in
    let q = then_ok (code_from n m (drop 8 b)) (λ is. Ok (i ∷ is)) is p.2 in
    let s = instruction_states n (take 8 b) i (length-take-le 8 b (omega arith)) (All-take _ 8 b w) p.1 in
    let k : length (drop 8 b) ≡ 8 * m = simp length-drop (omega arith) in
    let c = code_states n m (drop 8 b) q.0 k (All-drop _ 8 b w) q.1 in
    let e : is ≡ i ∷ q.0 = cc in
    rw e (record {
      bytes = sym (take-append-drop 8 b) ∙ ap (λ t. t ++ drop 8 b) s.0 ∙ ap (λ t. instruction_bytes i ++ t) c.bytes;
      many = ap suc c.many;
      sound = and_from _ _ s.1 c.sound;
    })

-- The contents of a processor field that is read are the bytes of allowed instructions.
pub contents_code : (b : List ℕ) (is : List Instruction) → code_fits (length b) ≡ true → AllByRecursion (λ x. x < 256) b → code_of b ≡ Ok is →
    (b ≡ flat_map instruction_bytes is) × CodeAllowed is
unfolding code_sound
contents_code b is f w h =
    let p = and_parts (leb (length b) 128) (eqb (length b % 8) 0) f in
    let l = leb-true (length b) 128 p.0 in
    let e = eqb-true (length b % 8) 0 p.1 in
    let n = length b / 8 in
    let c = code_states n n b is (omega arith) w h in
    let m = c.many in
    (c.bytes, (omega arith, rw m c.sound))

-- Allowed instructions are read from the contents of their field.
pub code_contents : (is : List Instruction) → CodeAllowed is →
    (code_fits (length (flat_map instruction_bytes is)) ≡ true) × (code_of (flat_map instruction_bytes is) ≡ Ok is)
unfolding code_sound
code_contents is a =
    let n = length (flat_map instruction_bytes is) in
    let l = length_code is in
    let e : n / 8 ≡ length is = omega arith in
    (and_from _ _ (le-leb n 128 (omega arith)) (eq-eqb (n % 8) 0 (omega arith)), rw e (code_read (length is) is a.1))
