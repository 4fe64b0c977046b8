-- Once every path is fetched, the state is related to the witness with no access carried out.
use Rattle.std.proofs.Common.{◌≡◌, ℕ, ◌<◌, true, List, [], map, length, sym, refl, ap, ◌∙◌, subst, inl, inr, arith}
use Rattle.std.proofs.lemmas.List.FromFn.{length-map-range_with_len, get_or-map-range_with_len}
use Rattle.std.proofs.lemmas.List.{length-map, get_or-map, get_or_past, nil_from_length}
use Rattle.std.proofs.lemmas.Bool.{cases_lt, false≢true}
use Rattle.checker.specs.Axioms.{Path, leads_to}
use Rattle.checker.specs.Terms.{event}
use Rattle.checker_laws.proofs.Built.{length_events}
use Rattle.events.specs.declared.event.Event.{Event}
use Rattle.events.specs.Events.{no_event}
use Rattle.events.specs.Sources.{path_at, events}
use Rattle.events.proofs.LoadCounts.{path_short}
use Rattle.machine.specs.Fires.{buffer, entry}
use Rattle.machine.specs.State.{Core, State, empty_core, core_at, start_cell, started}
use Rattle.memory.specs.Cells.{zero_cell}
use Rattle.question.specs.Litmus.{Litmus}
use Rattle.reachable.specs.Checked.{Checked}
use Rattle.reachable.specs.Invariant.{Invariant}
use Rattle.reachable.proofs.Runs.{every_reachable_state_keeps_the_invariant}
use Rattle.rules.specs.Entries as entries
use Rattle.rules.specs.declared.entry.Entry.{Entry}
use Rattle.search.specs.Search.{nearest}
use Rattle.witness.specs.Execution.{Execution, Within}
use Rattle.completeness.specs.Rebuilds.{Lead}
use Rattle.completeness.specs.StepsFor.{fetches}
use Rattle.completeness.proofs.FetchPhase.{lead_runs, fetched_state, all_fetched}
use Rattle.completeness.proofs.PathFetched.{fresh_of, fetched_core}
use Rattle.completeness.proofs.Related.{Related}

module _ (q : Litmus) (checked : Checked q) (w : Execution) (within : Within w) (path : Path q w) where
  -- All paths fetched.
  abbrev start : State
  start = fetched_state q w

  -- Every processor has its path fetched, those that there are not included.
  pub core_fetched_is : (p : ℕ) → core_at start p ≡ fetched_core q w p
  core_fetched_is p = elim (cases_lt p (length q.code)) [
    | inl l ↦ get_or-map-range_with_len (fetched_core q w) 0 (length q.code) p p empty_core l (omega arith)
    | inr l ↦ (let none : events q w p ≡ [] = nil_from_length (events q w p) (length_events q w p ∙ ap length (get_or_past w.paths p [] (omega (arith, path.paths)))) in
        get_or_past start.cores p empty_core (omega (arith, length-map-range_with_len (fetched_core q w) 0 (length q.code)))
        ∙ sym (ap (λ (es : List Event). record { counter = leads_to es (length es); entries = map fresh_of es }) none))
  ]

  buffer_size : (p : ℕ) → length (buffer start p) ≡ length (path_at w p)
  buffer_size p = ap (λ (c : Core). length c.entries) (core_fetched_is p) ∙ length-map (events q w p) fresh_of ∙ length_events q w p

  entry_fresh : (p i : ℕ) → i < length (path_at w p) → entry start p i ≡ fresh_of (event q w p i)
  entry_fresh p i l =
      ap (λ (c : Core). entries.at c.entries i) (core_fetched_is p)
      ∙ get_or-map fresh_of (events q w p) i no_event entries.blank (omega (arith, length_events q w p))

  not_done : (p i : ℕ) {A : Type 0} → i < length (path_at w p) → (entry start p i).done ≡ true → A
  not_done p i l d = absurd (false≢true (sym (ap (λ (e : Entry). e.done) (entry_fresh p i l)) ∙ d))

  -- The fetches lead there.
  pub fetches_lead : Lead q (started q) (fetches q w) start
  fetches_lead = all_fetched q w path.runs (λ p. path_short w p within)

  fetched_invariant : Invariant q start
  fetched_invariant = subst (Invariant q) (lead_runs q (fetches q w) fetches_lead) (every_reachable_state_keeps_the_invariant q checked (fetches q w))

  -- No access is carried out yet.
  pub fetched_related : Related q w 0 start
  unfolding nearest
  fetched_related = record {
    invariant = fetched_invariant;
    whole = buffer_size;
    places = λ p i l. ap (λ (e : Entry). e.place) (entry_fresh p i l);
    nexts = λ p i l. ap (λ (e : Entry). e.next) (entry_fresh p i l);
    sourced = λ p i (l, x) d. not_done p i l d;
    done_is = λ p i (l, x). (λ d. not_done p i l d, λ r. absurd (omega arith));
    order = refl;
    cells = λ a l. get_or-map start_cell q.start a 0 zero_cell (omega (arith, checked.sixteen));
    safe = λ p i (l, x) d. not_done p i l d;
  }
