-- The laws of the invariant: every rule keeps it, and so every run does; done stores stay, and the order is never cut.
use Rattle.std.proofs.Common.{◌≡◌, ◌<◌, ◌≤◌, List, [], ◌∷◌, length, set, refl, arith}
use Rattle.machine.specs.declared.step.Step.{Step}
use Rattle.machine.specs.Fires.{buffer, entry}
use Rattle.machine.specs.State.{Core, State, core_at, started}
use Rattle.machine.specs.Steps.{Outcome, refused, went, after, with_core, step_outcome, run_all}
use Rattle.machine_laws.proofs.GoneFires.{gone_fires}
use Rattle.question.specs.Litmus.{Litmus}
use Rattle.rules.specs.Entries.{done_with}
use Rattle.rules.specs.declared.entry.Entry.{Entry}
use Rattle.reachable.specs.Checked.{Checked}
use Rattle.reachable.specs.Invariant.{Invariant}
use Rattle.reachable.specs.Laws.{FiresKeeps, EveryReachableStateKeepsTheInvariant, EntriesGoOnward, DoneStoresStay, OrderNeverCut}
use Rattle.reachable.proofs.EachRule.{fires_ruled}
use Rattle.reachable.proofs.Fired.{fired_keeps, fired_onward, fired_stores_stay}
use Rattle.reachable.proofs.Orders.{stands_there, uncut}
use Rattle.reachable.proofs.Shapes.{processors_same, put_whole}
use Rattle.reachable.proofs.Starts.{started_keeps}

-- Every rule keeps the invariant.
pub fires_keeps : FiresKeeps
fires_keeps q s st n t checked inv f = let r = fires_ruled q s inv f in fired_keeps q s t r.processor r.position r.left r.put inv r.fired checked

-- Every entry that a rule leaves standing goes onward.
pub entries_go_onward : EntriesGoOnward
entries_go_onward q s st n t inv f = let r = fires_ruled q s inv f in fired_onward q s t r.processor r.position r.left r.put inv r.fired

-- An access that is not done yet joins the order at its end.
pub order_never_cut : OrderNeverCut
order_never_cut q s checked inv p i l x w =
    let here : p < length s.cores = stands_there s p i l in
    let e : Entry = done_with (entry s p i) 0 in
    let c : Core = record { counter = (core_at s p).counter; entries = set (buffer s p) i e } in
    let t : State = with_core s p c in
    let four : length t.cores ≤ 4 = omega (arith, processors_same s t p c here refl, inv.processors, checked.few) in
    uncut s t p i (length (buffer s p)) e (put_whole s t p c here refl i e l refl) (inv.room p) inv.room four (λ m. w) inv.listed l refl x refl

-- No rule removes or changes a done store.
pub done_stores_stay : DoneStoresStay
done_stores_stay q s st n t inv f = let r = fires_ruled q s inv f in fired_stores_stay q s t r.processor r.position r.left r.put inv r.fired

module _ (q : Litmus) (checked : Checked q) where
  -- A step keeps the invariant, refused or not.
  step_keeps : (s : State) (st : Step) → Invariant q s → (o : Outcome) → step_outcome q s st ≡ o → Invariant q (after s o)
  step_keeps s st inv (refused e) h = inv
  step_keeps s st inv (went n t) h = fires_keeps q s st n t checked inv (gone_fires q s st n t h)

  -- A run from a state in the invariant stays in it.
  pub run_keeps : (steps : List Step) (s : State) → Invariant q s → Invariant q (run_all q s steps)
  unfolding run_all
  run_keeps [] s inv = inv
  run_keeps (st ∷ steps) s inv = run_keeps steps (after s (step_outcome q s st)) (step_keeps s st inv (step_outcome q s st) refl)

-- Every state that a run reaches keeps the invariant.
pub every_reachable_state_keeps_the_invariant : EveryReachableStateKeepsTheInvariant
every_reachable_state_keeps_the_invariant q checked steps = run_keeps q checked steps (started q) (started_keeps q checked)
