-- A fetch that fires is accepted, with the state that the rule says.
use Rattle.std.proofs.Common.{◌≡◌, ℕ, ◌<◌, true, false, length, refl, ◌∙◌}
use Rattle.std.proofs.lemmas.Bool.{lt-ltb}
use Rattle.instructions.specs.Kinds.{branches}
use Rattle.question.specs.Litmus.{Litmus, code_at, instruction_at}
use Rattle.machine.specs.State.{State, core_at}
use Rattle.machine.specs.Steps.{with_core, core_fetched, step_outcome, fetch_outcome, went}
use Rattle.machine.specs.Fires.{buffer, step, fetched_entry}
use Rattle.machine.proofs.Outcomes.{fetch_step}

module _ (q : Litmus) (s : State) (p : ℕ) (there : p < length s.cores) (not_at_end : (core_at s p).counter < length (code_at q p))
    (room : length (buffer s p) < 16) where
  -- With guess 1 at a branch.
  pub fetch_taken_goes : branches (instruction_at (code_at q p) (core_at s p).counter) ≡ true →
      step_outcome q s (step 1 p 0 1) ≡ went 0 (with_core s p (core_fetched (core_at s p) (fetched_entry q s p true)))
  unfolding fetch_outcome
  fetch_taken_goes b =
      fetch_step q s (step 1 p 0 1) refl there
      ∙ rw (lt-ltb (core_at s p).counter (length (code_at q p)) not_at_end, lt-ltb (length (buffer s p)) 16 room, b) refl

  -- With guess 0.
  pub fetch_goes : step_outcome q s (step 1 p 0 0) ≡ went 0 (with_core s p (core_fetched (core_at s p) (fetched_entry q s p false)))
  unfolding fetch_outcome
  fetch_goes =
      fetch_step q s (step 1 p 0 0) refl there
      ∙ rw (lt-ltb (core_at s p).counter (length (code_at q p)) not_at_end, lt-ltb (length (buffer s p)) 16 room) refl
