-- Every accepted witness is rebuilt, and its steps run to it.
use Rattle.std.proofs.Common.{◌≡◌, ℕ, ◌<◌, true, ◌++◌, length, sym, refl, ap, ◌∙◌, subst, arith}
use Rattle.std.proofs.lemmas.List.{length-append}
use Rattle.checker.specs.Axioms.{Axioms}
use Rattle.checker_laws.proofs.Judged.{gam_verdicts_are_the_axioms}
use Rattle.events.specs.Sources.{path_at}
use Rattle.machine.specs.Fires.{entry}
use Rattle.machine.specs.Results.{closed}
use Rattle.machine.specs.State.{State, started}
use Rattle.machine.specs.Steps.{run_all}
use Rattle.ordering.specs.Rules.{gam}
use Rattle.question.specs.Litmus.{Litmus}
use Rattle.reachable.specs.Checked.{Checked}
use Rattle.witness.specs.Execution.{Execution, Within}
use Rattle.completeness.specs.Complete.{Rebuilt, AcceptedWitnessesAreRebuilt}
use Rattle.completeness.specs.Rebuilds.{Lead, Rebuilds}
use Rattle.completeness.specs.StepsFor.{Made, fetches, carry_out, steps_for}
use Rattle.completeness.proofs.CarriedOut.{RestCarried, carried}
use Rattle.completeness.proofs.Ends.{all_done}
use Rattle.completeness.proofs.FetchPhase.{lead_append, lead_runs, fetched_state}
use Rattle.completeness.proofs.Fetched.{fetches_lead, fetched_related}
use Rattle.completeness.proofs.Finished.{run_finished}
use Rattle.completeness.proofs.Leading.{lead_answers, carried_lead, fetches_few}
use Rattle.completeness.proofs.Measure.{left_bound}
use Rattle.completeness.proofs.OneRebuild.{rebuilds_once}
use Rattle.completeness.proofs.SameWitness.{same_witness}

module _ (q : Litmus) (checked : Checked q) (w : Execution) (within : Within w) (axioms : Axioms gam q w) where
  -- All paths fetched.
  abbrev start : State
  start = fetched_state q w

  -- All accesses carried out from there.
  abbrev done : Made
  done = carry_out q w.order start

  -- The fetches lead to the start.
  fetching : Lead q (started q) (fetches q w) start
  fetching = fetches_lead q checked w within axioms.path

  -- What that comes to.
  carrying : RestCarried q checked w within axioms start w.order done
  carrying = carried q checked w within axioms w.order 0 start (fetched_related q checked w within axioms.path) (omega arith) refl

  -- The steps are the fetches and what carries out the accesses.
  steps_are : steps_for q w ≡ fetches q w ++ done.steps
  unfolding steps_for
  steps_are = ap (λ s. fetches q w ++ (carry_out q w.order s).steps) (lead_runs q (fetches q w) fetching)

  -- They lead to the end.
  leading : Lead q (started q) (steps_for q w) done.state
  leading = subst (λ xs. Lead q (started q) xs done.state) (sym steps_are) (lead_append q fetching (carried_lead q carrying.carried_out))

  -- The steps for the witness rebuild it.
  rebuilding : Rebuilds q w (steps_for q w)
  rebuilding = record { fetched = start; end = done.state; rest = done.steps; parts = steps_are; fetches_lead = fetching; accesses = carrying.carried_out }

  -- Every entry is done at the end.
  every_done : (p i : ℕ) → i < length (path_at w p) → (entry done.state p i).done ≡ true
  every_done p i l = all_done q w axioms done.state carrying.related carrying.still p i (omega (arith, carrying.related.whole p))

  -- The witness is rebuilt.
  pub rebuilt : Rebuilt q w
  rebuilt =
      let runs : run_all q (started q) (steps_for q w) ≡ done.state = lead_runs q (steps_for q w) leading in
      record {
        accepted = (gam_verdicts_are_the_axioms.0 q w).1 axioms;
        rebuilds = rebuilding;
        only = λ steps r. rebuilds_once q w steps (steps_for q w) r rebuilding;
        few = omega (
          arith,
          ap length steps_are,
          length-append (fetches q w) done.steps,
          fetches_few q w within,
          carrying.cost,
          left_bound q start (fetched_related q checked w within axioms.path).invariant,
          (fetched_related q checked w within axioms.path).invariant.processors,
          checked.few,
        );
        answered = lead_answers q (steps_for q w) leading;
        finished = ap (λ s. (closed q s).finished) runs ∙ run_finished q w axioms.path (length w.order) done.state carrying.related every_done;
        same = ap (λ s. (closed q s).execution) runs ∙ same_witness q w axioms.path (length w.order) done.state carrying.related every_done refl;
      }

-- The theorem.
pub accepted_witnesses_are_rebuilt : AcceptedWitnessesAreRebuilt
accepted_witnesses_are_rebuilt q checked w within axioms = rebuilt q checked w within axioms
