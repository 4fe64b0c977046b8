-- Bytes in fours state steps.
use Rattle.std.proofs.Common.{◌≡◌, ℕ, zero, suc, ◌+◌, ◌*◌, ◌/◌, ◌%◌, ◌<◌, ◌≤◌, List, [], ◌∷◌, length, map, get_or, drop, Some, sym, refl, ap, ◌∙◌, arith}
use Rattle.std.proofs.lemmas.List.{at_drop_all, at_drop_more}
use Rattle.std.specs.Option.{option_map}
use Rattle.std.specs.Simd.{first_chunks}
use Rattle.machine.specs.Bytes.{step_bytes}
use Rattle.machine.specs.Fires.{step}
use Rattle.machine.specs.Results.{closed}
use Rattle.machine.specs.State.{State, started}
use Rattle.machine.specs.Steps.{after, step_outcome, run_all}
use Rattle.machine.specs.declared.step.Step.{Step}
use Rattle.question.specs.Litmus.{Litmus}
use Rattle.runs.specs.StepBytes.{steps_of}
use Rattle.marking.specs.Earned.{run_of}
use Rattle.marking.specs.Views.{step_stated}

-- Bytes that end with a step state the steps of their fours.
stated_by_fours : (n : ℕ) (b : List ℕ) → length b ≡ n * 4 → steps_of b ≡ Some (map step_stated (first_chunks 4 n b))
unfolding steps_of
stated_by_fours zero [] l = refl
stated_by_fours zero (a ∷ b) l = absurd (omega arith)
stated_by_fours (suc n) [] l = absurd (omega arith)
stated_by_fours (suc n) (a ∷ []) l = absurd (omega arith)
stated_by_fours (suc n) (a ∷ b ∷ []) l = absurd (omega arith)
stated_by_fours (suc n) (a ∷ b ∷ c ∷ []) l = absurd (omega arith)
stated_by_fours (suc n) (a ∷ b ∷ c ∷ d ∷ rest) l = ap (option_map (λ more. step a b c d ∷ more)) (stated_by_fours n rest (omega arith))

-- So do bytes with nothing behind their fours.
pub stated_by_chunks : (b : List ℕ) (fours : List (List ℕ)) → fours ≡ first_chunks 4 (length b / 4) b → length b % 4 ≡ 0 → steps_of b ≡ Some (map step_stated fours)
stated_by_chunks b fours e l = stated_by_fours (length b / 4) b (omega arith) ∙ sym (ap (λ xs. Some (map step_stated xs)) e)

-- The step of four bytes is taken, and then those of the fours behind them.
pub step_taken : (q p : Litmus) (s t : State) (fours : List (List ℕ)) (i : ℕ) (st : Step) → i < length fours → step_bytes st ≡ get_or fours i [] → p ≡ q → t ≡ after s (step_outcome p s st) →
    run_all q t (map step_stated (drop (i + 1) fours)) ≡ run_all q s (map step_stated (drop i fours))
unfolding run_all
step_taken q p s t fours i st l is same state =
    ap (λ u. run_all q u (map step_stated (drop (i + 1) fours))) (state ∙ ap (λ r. after s (step_outcome r s st)) same ∙ ap (λ b. after s (step_outcome q s (step_stated b))) is)
    ∙ sym (at_drop_more (λ xs. run_all q s (map step_stated xs)) fours i [] l)

-- No steps change nothing.
none_left : (q : Litmus) (s : State) → s ≡ run_all q s []
unfolding run_all
none_left q s = refl

-- Behind the last four bytes the run is that of all steps.
pub all_taken : (q p a : Litmus) (s t : State) (fours : List (List ℕ)) (i : ℕ) → length fours ≤ i → p ≡ q → q ≡ a → t ≡ started a →
    run_all q s (map step_stated (drop i fours)) ≡ run_all q t (map step_stated fours) → closed p s ≡ run_of a (map step_stated fours)
all_taken q p a s t fours i l now asked start kept =
    let end : s ≡ run_all q t (map step_stated fours) = none_left q s ∙ sym (at_drop_all (λ xs. run_all q s (map step_stated xs)) fours i l) ∙ kept in
    cc
