-- A run that finishes, worked through by hand.
use Rattle.std.specs.Prelude.{◌≡◌, true, List, [], ◌∷◌, None}
use Rattle.instructions.specs.declared.instruction.Instruction.TheVariants.{Store, Load}
use Rattle.machine.specs.declared.step.Step.{Step}
use Rattle.machine.specs.Fires.{step}
use Rattle.machine.specs.Results.{closed}
use Rattle.question.specs.Cells.{zeros}
use Rattle.question.specs.Litmus.{Litmus}
use Rattle.reachable.specs.Checked.{Checked}
use Rattle.soundness.specs.Laws.{reached, SatisfiesTheAxioms}

-- Store 5 to cell 1, then load it into register 0.
abbrev pub store_then_load : Litmus
store_then_load = record { start = zeros; code = (Store None None 1 5 ∷ Load 0 None 1 ∷ []) ∷ [] }

-- Both fetches, the store's data and address, the load's address, the load, the store.
abbrev pub seven_steps : List Step
seven_steps = step 1 0 0 0 ∷ step 1 0 0 0 ∷ step 6 0 0 0 ∷ step 8 0 0 0 ∷ step 8 0 1 0 ∷ step 5 0 1 0 ∷ step 7 0 0 0 ∷ []

-- The question is checked, the run finishes, and so its witness satisfies the axioms.
pub record StoreThenLoadSatisfiesTheAxioms : Type 0 where
  pub checked : Checked store_then_load
  pub finishes : (closed store_then_load (reached store_then_load seven_steps)).finished ≡ true
  pub satisfies : SatisfiesTheAxioms store_then_load (reached store_then_load seven_steps)
