-- The witness of a finished run satisfies Path.
use Rattle.std.proofs.Common.{◌≡◌, ℕ, zero, suc, ◌+◌, ◌<◌, true, List, length, sym, ap, ◌∙◌, arith}
use Rattle.std.proofs.lemmas.List.{length-map}
use Rattle.machine.specs.Fires.{buffer, entry}
use Rattle.machine.specs.Results.{closed, core_path, witness_of_state}
use Rattle.machine.specs.State.{State, core_at}
use Rattle.question.specs.Litmus.{Litmus, code_at}
use Rattle.witness.specs.Execution.{Execution}
use Rattle.events.specs.declared.event.Event.{Event}
use Rattle.events.specs.Events.{at}
use Rattle.events.specs.Sources.{events}
use Rattle.checker.specs.Axioms.{leads_to, RunsThrough, Path}
use Rattle.reachable.specs.Invariant.{Invariant}
use Rattle.reachable.proofs.Ends.{finished_runs_are_done}
use Rattle.reachable.proofs.Facts.{next_is_following, next_is_counter, oldest_at_zero, empty_at_zero}
use Rattle.soundness.proofs.WitnessEvents.{AllDone, events_length, event_place, event_next}
use Rattle.soundness.proofs.WitnessRows.{records_counted}

module _ (q : Litmus) (s : State) (inv : Invariant q s) (finished : (closed q s).finished ≡ true) where
  abbrev w : Execution
  w = witness_of_state s

  -- Every entry is done.
  pub all_done : AllDone s
  all_done p i l = (finished_runs_are_done q s inv finished p).1 i l

  -- The counter is at the end.
  at_end : (p : ℕ) → (core_at s p).counter ≡ length (code_at q p)
  at_end p = (finished_runs_are_done q s inv finished p).0

  module _ (p : ℕ) where
    abbrev es : List Event
    es = events q w p

    -- Each event stands where those before it lead.
    led : (i : ℕ) → i < length (buffer s p) → (at es i).place ≡ leads_to es i
    led zero l = event_place q s inv all_done p 0 l ∙ oldest_at_zero q s inv p l
    led (suc i) l =
        let e : i + 1 ≡ suc i = omega arith in
        event_place q s inv all_done p (suc i) l
        ∙ sym (next_is_following q s inv p i (omega arith) ∙ ap (λ k. (entry s p k).place) e)
        ∙ sym (event_next q s inv all_done p i (omega arith))

    -- The last leads to the end.
    led_to_end : (n : ℕ) → n ≡ length (buffer s p) → leads_to es n ≡ length (code_at q p)
    led_to_end zero e = sym (empty_at_zero q s inv p (sym e)) ∙ at_end p
    led_to_end (suc n) e = event_next q s inv all_done p n (omega arith) ∙ next_is_counter q s inv p n (omega arith) ∙ at_end p

    runs_through : RunsThrough (code_at q p) es
    runs_through = record {
      each = λ i l. (let b : i < length (buffer s p) = omega (arith, events_length q s inv all_done p) in
          (led i b, rw (event_place q s inv all_done p i b) (inv.entries p i b).in_code.within));
      ends = led_to_end (length es) (events_length q s inv all_done p);
    }

  pub path_holds : Path q w
  path_holds = record {
    paths = length-map s.cores core_path ∙ inv.processors;
    runs = λ p l. runs_through p;
    records = records_counted q s inv;
  }
