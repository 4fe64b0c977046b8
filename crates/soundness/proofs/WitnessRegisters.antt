-- The registers of a finished run are those that its witness fixes.
use Rattle.std.proofs.Common.{◌≡◌, ℕ, ◌<◌, true, [], length, get_or, Ok, sym, ap, ◌∙◌, arith}
use Rattle.std.proofs.lemmas.List.FromFn.{get_or-map-range_with_len}
use Rattle.std.proofs.lemmas.List.{length-map, get_or-map}
use Rattle.std.proofs.lemmas.Bool.{lt-ltb, and_from, cond-true}
use Rattle.machine.specs.Fires.{buffer}
use Rattle.machine.specs.Results.{closed, registers_of, register_value, register_answer, witness_of_state}
use Rattle.machine.specs.State.{State, empty_core}
use Rattle.question.specs.Litmus.{Litmus}
use Rattle.witness.specs.Execution.{Execution}
use Rattle.checker.specs.Fixed.{fixed_register}
use Rattle.reachable.specs.Invariant.{Invariant}
use Rattle.soundness.proofs.WitnessEvents.{register_is}
use Rattle.soundness.proofs.WitnessPath.{all_done}

module _ (q : Litmus) (s : State) (inv : Invariant q s) (finished : (closed q s).finished ≡ true) where
  abbrev w : Execution
  w = witness_of_state s

  -- The registers are those that the witness fixes.
  pub registers_fixed : (p r : ℕ) → p < length q.code → r < 8 → register_answer (closed q s) p r ≡ Ok (fixed_register q w p r)
  registers_fixed p r l h =
      let b : p < length s.cores = omega (arith, inv.processors) in
      cond-true _ _ _ finished
      ∙ cond-true _ _ _ (and_from _ _ (lt-ltb p _ (omega (arith, length-map s.cores registers_of))) (lt-ltb r 8 h))
      ∙ ap (λ v. Ok v) (ap (λ vs. get_or vs r 0) (get_or-map registers_of s.cores p empty_core [] b)
      ∙ get_or-map-range_with_len (register_value (buffer s p)) 0 8 r r 0 h (omega arith)
      ∙ sym (register_is q s inv (all_done q s inv finished) p r))
