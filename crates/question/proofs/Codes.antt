-- Instructions of a processor, read one after the other.
use Rattle.std.proofs.Common.{◌≡◌, ℕ, suc, ◌+◌, ◌-◌, ◌*◌, ◌<◌, ◌≤◌, List, [], ◌∷◌, ◌++◌, length, get_or, take, drop, Ok, Err, Result, sym, refl, ap, ◌∙◌, append_assoc, arith}
use Rattle.std.proofs.lemmas.List.{drop_more, drop-drop, append-nil}
use Rattle.fields.specs.declared.refusal.Refusal.{Refusal}
use Rattle.fields.specs.Rows.{then}
use Rattle.instructions.specs.declared.instruction.Instruction.{Instruction}
use Rattle.question.specs.Instructions.{instruction_of}
use Rattle.question.specs.Codes.{code_from}

-- These instructions in front of those of an answer.
abbrev pub after : List Instruction → Result (List Instruction) Refusal → Result (List Instruction) Refusal
after xs r = then r (λ ys. Ok (xs ++ ys))

after_one : (xs : List Instruction) (i : Instruction) (r : Result (List Instruction) Refusal) →
    after xs (then r (λ is. Ok (i ∷ is))) ≡ after (xs ++ i ∷ []) r
after_one xs i (Ok ys) = ap Ok (sym (append_assoc xs (i ∷ []) ys))
after_one xs i (Err e) = refl

module _ (n : ℕ) (b : List ℕ) where
  -- What is left at place p begins with the instruction there.
  here : (p : ℕ) → p < n → code_from n (n - p) (drop (8 * p) b)
      ≡ then (instruction_of n (take 8 (drop (8 * p) b))) (λ i. then (code_from n (n - (p + 1)) (drop (8 * (p + 1)) b)) (λ is. Ok (i ∷ is)))
  unfolding code_from
  here p l =
      let e : n - p ≡ suc (n - (p + 1)) = omega arith in
      let f : 8 * p + 8 ≡ 8 * (p + 1) = omega arith in
      ap (λ m. code_from n m (drop (8 * p) b)) e
      ∙ ap (λ t. then (instruction_of n (take 8 (drop (8 * p) b))) (λ i. then (code_from n (n - (p + 1)) t) (λ is. Ok (i ∷ is)))) (drop-drop 8 (8 * p) b ∙ ap (λ k. drop k b) f)

  pub code_more : (p : ℕ) (xs : List Instruction) (i : Instruction) → p < n → instruction_of n (take 8 (drop (8 * p) b)) ≡ Ok i →
      after xs (code_from n (n - p) (drop (8 * p) b)) ≡ after (xs ++ i ∷ []) (code_from n (n - (p + 1)) (drop (8 * (p + 1)) b))
  code_more p xs i l h =
      let rest = code_from n (n - (p + 1)) (drop (8 * (p + 1)) b) in
      ap (after xs) (here p l ∙ ap (λ q. then q (λ i. then rest (λ is. Ok (i ∷ is)))) h) ∙ after_one xs i rest

  pub code_fault : (p : ℕ) (xs : List Instruction) (e : Refusal) → p < n → instruction_of n (take 8 (drop (8 * p) b)) ≡ Err e →
      after xs (code_from n (n - p) (drop (8 * p) b)) ≡ Err e
  code_fault p xs e l h =
      let rest = code_from n (n - (p + 1)) (drop (8 * (p + 1)) b) in
      ap (after xs) (here p l ∙ ap (λ q. then q (λ i. then rest (λ is. Ok (i ∷ is)))) h)

  pub code_all : (p : ℕ) (xs : List Instruction) → n ≤ p → after xs (code_from n (n - p) (drop (8 * p) b)) ≡ Ok xs
  unfolding code_from
  code_all p xs l =
      let e : n - p ≡ 0 = omega arith in
      ap (λ m. after xs (code_from n m (drop (8 * p) b))) e ∙ ap Ok (append-nil xs)

-- One byte more at the front of those from i on.
next : (b : List ℕ) (n i j : ℕ) → i < length b → i + 1 ≡ j → take (suc n) (drop i b) ≡ get_or b i 0 ∷ take n (drop j b)
next b n i j l e = ap (take (suc n)) (drop_more b i 0 l) ∙ ap (λ k. get_or b i 0 ∷ take n (drop k b)) e

-- The eight bytes from i on.
pub eight_bytes : (b : List ℕ) (i : ℕ) → i + 8 ≤ length b →
    get_or b i 0 ∷ get_or b (i + 1) 0 ∷ get_or b (i + 2) 0 ∷ get_or b (i + 3) 0 ∷ get_or b (i + 4) 0 ∷ get_or b (i + 5) 0 ∷ get_or b (i + 6) 0 ∷ get_or b (i + 7) 0 ∷ []
    ≡ take 8 (drop i b)
eight_bytes b i l = sym (
    next b 7 i (i + 1) (omega arith) refl ∙ ap (λ t. get_or b i 0 ∷ t) (
    next b 6 (i + 1) (i + 2) (omega arith) (omega arith) ∙ ap (λ t. get_or b (i + 1) 0 ∷ t) (
    next b 5 (i + 2) (i + 3) (omega arith) (omega arith) ∙ ap (λ t. get_or b (i + 2) 0 ∷ t) (
    next b 4 (i + 3) (i + 4) (omega arith) (omega arith) ∙ ap (λ t. get_or b (i + 3) 0 ∷ t) (
    next b 3 (i + 4) (i + 5) (omega arith) (omega arith) ∙ ap (λ t. get_or b (i + 4) 0 ∷ t) (
    next b 2 (i + 5) (i + 6) (omega arith) (omega arith) ∙ ap (λ t. get_or b (i + 5) 0 ∷ t) (
    next b 1 (i + 6) (i + 7) (omega arith) (omega arith) ∙ ap (λ t. get_or b (i + 6) 0 ∷ t) (
    next b 0 (i + 7) (i + 8) (omega arith) (omega arith)))))))))
