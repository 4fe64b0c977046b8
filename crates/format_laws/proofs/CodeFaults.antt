-- A processor's instructions are refused for the first one that is, as that one is.
use Rattle.std.proofs.Common.{◌≡◌, ℕ, zero, suc, ◌+◌, ◌*◌, ◌/◌, ◌<◌, true, List, ◌∷◌, length, take, drop, is_ok, Ok, Err, Result, sym, ap, ◌∙◌, inl, inr, arith}
use Rattle.std.proofs.lemmas.List.{drop-drop}
use Rattle.std.proofs.lemmas.Bool.{false≢true}
use Rattle.fields.specs.declared.refusal.Refusal.{Refusal}
use Rattle.fields.specs.Rows.{then}
use Rattle.fields.proofs.Rows.{then_err}
use Rattle.instructions.specs.declared.instruction.Instruction.{Instruction}
use Rattle.question.specs.Instructions.{instruction_of}
use Rattle.question.specs.Codes.{code_from}
use Rattle.question.specs.Means.{CodeRefusedForItsFirstFault}

module _ (n : ℕ) (e : Refusal) where
  -- What the p-th eight bytes are read as.
  abbrev place : List ℕ → ℕ → Result Instruction Refusal
  place b p = instruction_of n (take 8 (drop (8 * p) b))

  -- The first of m places that is refused, is refused for e.
  abbrev First : ℕ → List ℕ → Type 0
  First m b = (p : ℕ) × (p < m) × ((q : ℕ) → q < p → is_ok (place b q) ≡ true) × (place b p ≡ Err e)

  -- A place behind the first one.
  place_behind : (b : List ℕ) (p : ℕ) → place (drop 8 b) p ≡ place b (suc p)
  place_behind b p =
      let s : 8 + 8 * p ≡ 8 * suc p = omega arith in
      ap (λ t. instruction_of n (take 8 t)) (drop-drop (8 * p) 8 b ∙ ap (λ k. drop k b) s)

  -- Where a read place stands in front, the first refused place is one further on.
  first_behind : (m : ℕ) (b : List ℕ) (i : Instruction) → instruction_of n (take 8 b) ≡ Ok i → First m (drop 8 b) → First (suc m) b
  first_behind m b i h f = (suc f.0, omega arith, before, sym (place_behind b f.0) ∙ f.3)
    where
      before : (q : ℕ) → q < suc f.0 → is_ok (place b q) ≡ true
      before zero l = rw h
      before (suc q) l = rw (← place_behind b q) (f.2 q (omega arith))

  -- Instructions that are refused have a first that is.
  code_first : (m : ℕ) (b : List ℕ) → code_from n m b ≡ Err e → First m b
  unfolding code_from
  code_first zero b h = absurd (let z : ◌≡◌ {A = ℕ} 0 1 = cc in omega arith)
  code_first (suc m) b h =
      elim (then_err (instruction_of n (take 8 b)) (λ i. then (code_from n m (drop 8 b)) (λ is. Ok (i ∷ is))) e h) [
        | inl p ↦ (0, omega arith, λ q l. absurd (omega arith), p)
        | inr p ↦
            elim (then_err (code_from n m (drop 8 b)) (λ is. Ok (p.0 ∷ is)) e p.2) [
              | inl q ↦ first_behind m b p.0 p.1 (code_first m (drop 8 b) q)
              | inr q ↦ absurd (let r = q.2 in let z : ◌≡◌ {A = ℕ} 0 1 = cc in omega arith)
            ]
      ]

  -- Instructions of which one is refused, and those before it are read, are refused as it is.
  first_code : (m : ℕ) (b : List ℕ) (p : ℕ) → p < m → ((q : ℕ) → q < p → is_ok (place b q) ≡ true) → place b p ≡ Err e → code_from n m b ≡ Err e
  unfolding code_from
  first_code zero b p l f h = absurd (omega arith)
  first_code (suc m) b zero l f h = rw h
  first_code (suc m) b (suc p) l f h =
      let rest = first_code m (drop 8 b) p (omega arith) (λ q k. rw (place_behind b q) (f (suc q) (omega arith))) (place_behind b p ∙ h) in
      go (instruction_of n (take 8 b)) (f 0 (omega arith)) rest
    where
      go : (a : Result Instruction Refusal) → is_ok a ≡ true → code_from n m (drop 8 b) ≡ Err e →
          then a (λ i. then (code_from n m (drop 8 b)) (λ is. Ok (i ∷ is))) ≡ Err e
      go (Ok i) k r = rw r
      go (Err d) k r = absurd (false≢true k)

-- The contents of a processor field of n instructions are refused for the first instruction that is, as that one is.
pub code_refused_for_its_first_fault : CodeRefusedForItsFirstFault
code_refused_for_its_first_fault n b e l =
    let k : length b / 8 ≡ n = omega arith in
    rw k (code_first n e n b, λ f. first_code n e n b f.0 f.1 f.2 f.3)
