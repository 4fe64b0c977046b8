-- Where the whole paths stand in the buffers and every entry is done, the run is finished.
use Rattle.std.proofs.Common.{◌≡◌, ℕ, zero, suc, ◌<◌, true, eqb, List, [], ◌∷◌, length, get_or, sym, refl, ◌∙◌, arith}
use Rattle.std.proofs.lemmas.Bool.{and_from, eq-eqb}
use Rattle.checker.specs.Axioms.{Path, leads_to}
use Rattle.checker_laws.proofs.Built.{length_events}
use Rattle.events.specs.Sources.{path_at, events}
use Rattle.instructions.specs.declared.instruction.Instruction.{Instruction}
use Rattle.machine.specs.Fires.{buffer, entry}
use Rattle.machine.specs.Results.{all_done, core_finished, all_finished, closed}
use Rattle.machine.specs.State.{Core, State, empty_core, core_at}
use Rattle.question.specs.Litmus.{Litmus, code_at}
use Rattle.reachable.proofs.Facts.{next_is_counter, empty_at_zero}
use Rattle.rules.specs.Entries.{at}
use Rattle.rules.specs.declared.entry.Entry.{Entry}
use Rattle.witness.specs.Execution.{Execution}
use Rattle.completeness.proofs.Related.{Related}

-- Where each is done, all are.
done_all : (es : List Entry) → ((i : ℕ) → i < length es → (at es i).done ≡ true) → all_done es ≡ true
done_all [] h = refl
done_all (e ∷ es) h = and_from e.done (all_done es) (h 0 (omega arith)) (done_all es (λ i l. h (suc i) (omega arith)))

-- Where each is finished, all are.
finished_all : (codes : List (List Instruction)) (cores : List Core) → length cores ≡ length codes →
    ((p : ℕ) → p < length codes → core_finished (get_or codes p []) (get_or cores p empty_core) ≡ true) → all_finished codes cores ≡ true
finished_all [] cores l h = refl
finished_all (code ∷ codes) [] l h = refl
finished_all (code ∷ codes) (c ∷ cores) l h =
    and_from (core_finished code c) (all_finished codes cores) (h 0 (omega arith)) (finished_all codes cores (omega arith) (λ p b. h (suc p) (omega arith)))

module _ (q : Litmus) (w : Execution) (path : Path q w) (t : ℕ) (s : State) (R : Related q w t s) where
  -- The counter is where the path leads.
  counter_leads : (p n : ℕ) → length (path_at w p) ≡ n → (core_at s p).counter ≡ leads_to (events q w p) n
  counter_leads p zero z = empty_at_zero q s R.invariant p (R.whole p ∙ z)
  counter_leads p (suc n) z =
      sym (next_is_counter q s R.invariant p n (omega (arith, R.whole p))) ∙ R.nexts p n (omega arith)

  at_end : (p : ℕ) → p < length q.code → (core_at s p).counter ≡ length (code_at q p)
  at_end p l = counter_leads p (length (events q w p)) (sym (length_events q w p)) ∙ (path.runs p l).ends

  pub run_finished : ((p i : ℕ) → i < length (path_at w p) → (entry s p i).done ≡ true) → (closed q s).finished ≡ true
  run_finished done = finished_all q.code s.cores R.invariant.processors (λ p l.
      and_from (eqb (core_at s p).counter (length (code_at q p))) (all_done (buffer s p)) (eq-eqb (core_at s p).counter (length (code_at q p)) (at_end p l))
      (done_all (buffer s p) (λ i m. done p i (omega (arith, R.whole p)))))
