-- A run that finishes, by computation.
use Rattle.std.proofs.Common.{◌≡◌, ℕ, zero, suc, ◌≤◌, true, length, refl, arith}
use Rattle.machine.specs.Results.{closed}
use Rattle.machine.specs.Steps.{step_outcome, run_all, fetch_outcome, act_outcome}
use Rattle.question.specs.Litmus.{code_at}
use Rattle.question.specs.Sound.{code_sound}
use Rattle.search.specs.Search.{nearest, first}
use Rattle.reachable.specs.Checked.{Checked}
use Rattle.soundness.specs.Laws.{reached}
use Rattle.soundness.specs.Worked.{store_then_load, seven_steps, StoreThenLoadSatisfiesTheAxioms}
use Rattle.soundness.proofs.FinishedRuns.{finished_runs_satisfy_the_axioms}

short : (p : ℕ) → length (code_at store_then_load p) ≤ 16
short zero = omega arith
short (suc p) = omega arith

sound : (p : ℕ) → code_sound (code_at store_then_load p) ≡ true
unfolding code_sound
sound zero = refl
sound (suc p) = refl

store_then_load_checked : Checked store_then_load
store_then_load_checked = record { sixteen = refl; some = omega arith; few = omega arith; short = short; sound = sound }

store_then_load_finishes : (closed store_then_load (reached store_then_load seven_steps)).finished ≡ true
unfolding step_outcome run_all fetch_outcome act_outcome nearest first
store_then_load_finishes = refl

pub store_then_load_satisfies_the_axioms : StoreThenLoadSatisfiesTheAxioms
store_then_load_satisfies_the_axioms = record {
  checked = store_then_load_checked;
  finishes = store_then_load_finishes;
  satisfies = finished_runs_satisfy_the_axioms store_then_load store_then_load_checked seven_steps store_then_load_finishes;
}
