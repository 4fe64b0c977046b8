-- Steps from bytes, four at a time.
use Rattle.std.proofs.Common.{◌≡◌, ◌≢◌, ℕ, zero, suc, ◌*◌, ◌%◌, List, [], ◌∷◌, map, length, Some, None, refl, ap, ◌∙◌, arith}
use Rattle.std.specs.Option.{option_map}
use Rattle.std.specs.Simd.{first_chunks}
use Rattle.machine.specs.Bytes.{step_bytes}
use Rattle.machine.specs.Fires.{step}
use Rattle.machine.specs.declared.step.Step.{Step}
use Rattle.runs.specs.StepBytes.{steps_of}

-- Where a part of a step is left over, there are no steps.
pub steps_cut : (bytes : List ℕ) → (length bytes % 4 ≢ 0) → None ≡ steps_of bytes
unfolding steps_of
steps_cut [] h = absurd (h refl)
steps_cut (a ∷ []) h = refl
steps_cut (a ∷ b ∷ []) h = refl
steps_cut (a ∷ b ∷ c ∷ []) h = refl
steps_cut (a ∷ b ∷ c ∷ d ∷ rest) h = ap (option_map (λ more. step a b c d ∷ more)) (steps_cut rest (λ e. h (omega (arith, e))))

-- A step is the one of its bytes.
step_again : (st : Step) (a b c d : ℕ) → step_bytes st ≡ a ∷ b ∷ c ∷ d ∷ [] → st ≡ step a b c d
step_again st a b c d e =
    let p : st.rule ≡ a = cc e in
    let q : st.processor ≡ b = cc e in
    let r : st.position ≡ c = cc e in
    let s : st.guess ≡ d = cc e in
    λ i. record { rule = p i; processor = q i; position = r i; guess = s i }

-- Steps that have the bytes of all chunks of four are the steps that the bytes state.
pub steps_whole : (n : ℕ) (bytes : List ℕ) (steps : List Step) → length bytes ≡ 4 * n → map step_bytes steps ≡ first_chunks 4 n bytes → Some steps ≡ steps_of bytes
unfolding steps_of
steps_whole zero [] [] l e = refl
steps_whole zero [] (st ∷ steps) l e = let z : ◌≡◌ {A = ℕ} 0 1 = cc e in absurd (omega arith)
steps_whole zero (a ∷ bytes) steps l e = absurd (omega arith)
steps_whole (suc n) [] steps l e = absurd (omega arith)
steps_whole (suc n) (a ∷ []) steps l e = absurd (omega arith)
steps_whole (suc n) (a ∷ b ∷ []) steps l e = absurd (omega arith)
steps_whole (suc n) (a ∷ b ∷ c ∷ []) steps l e = absurd (omega arith)
steps_whole (suc n) (a ∷ b ∷ c ∷ d ∷ rest) [] l e = let z : ◌≡◌ {A = ℕ} 0 1 = cc e in absurd (omega arith)
steps_whole (suc n) (a ∷ b ∷ c ∷ d ∷ rest) (st ∷ steps) l e =
    let here : step_bytes st ≡ a ∷ b ∷ c ∷ d ∷ [] = cc e in
    let others : map step_bytes steps ≡ first_chunks 4 n rest = cc e in
    ap (λ x. Some (x ∷ steps)) (step_again st a b c d here)
    ∙ ap (option_map (λ more. step a b c d ∷ more)) (steps_whole n rest steps (omega arith) others)
