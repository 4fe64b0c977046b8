-- Every run of the machine is shown by a world of which the invariant of soundness holds.
use Rattle.std.proofs.Common.{◌≡◌, ℕ, true, false, List, [], ◌∷◌, length, get_or, sym, refl, ap, arith}
use lib.ListN.{get_or-map}
use Rattle.instructions.specs.declared.instruction.Instruction.{Instruction}
use Rattle.machine.specs.declared.step.Step.{Step}
use Rattle.machine.specs.Fires.{Fires}
use Rattle.machine.specs.State.{Core, State, core_at, empty_core, start_cell, started}
use Rattle.machine.specs.Steps.{Outcome, refused, went, after, step_outcome, run_all}
use Rattle.machine_laws.proofs.GoneFires.{gone_fires}
use Rattle.memory.specs.Cells.{zero_cell}
use Rattle.memory.specs.declared.cell.Cell.{Cell}
use Rattle.question.specs.Litmus.{Litmus}
use Rattle.reachable.specs.Checked.{Checked}
use Rattle.reachable.specs.Invariant.{Invariant}
use Rattle.reachable.proofs.Runs.{fires_keeps}
use Rattle.reachable.proofs.Starts.{started_keeps}
use Rattle.soundness.proofs.Worlds.{World, begin}
use Rattle.soundness.proofs.Held.{Held, begin_held, step_held}
use Rattle.soundness.proofs.Seen.{Seen}
use Rattle.soundness.proofs.SeenFetch.{code_of, end_of, Follows, fetch_follows}
use Rattle.soundness.proofs.SeenPlain.{arithmetic_follows, guessed_follows, otherwise_follows, fence_follows}
use Rattle.soundness.proofs.SeenAccesses.{data_follows, memory_follows, forwarded_follows, store_follows}
use Rattle.soundness.proofs.SeenAddress.{address_follows, removing_follows}

-- The values that the cells start with.
abbrev pub start_of : Litmus → ℕ → ℕ
start_of q b = get_or q.start b 0

-- Each rule, as it fires, is a step of the world.
pub fires_follow : (q : Litmus) → Checked q → (s : State) → Invariant q s → (w : World) → Seen s w → {st : Step} {n : ℕ} {t : State} → Fires q s st n t → Follows q w t
fires_follow q checked s inv w seen (Fires.fetch_taken p h c r b) = fetch_follows q s w seen p h c r true
fires_follow q checked s inv w seen (Fires.fetch p h c r) = fetch_follows q s w seen p h c r false
fires_follow q checked s inv w seen (Fires.arithmetic p i x y l h d u v) = arithmetic_follows q s inv w seen p i l d x y h u v
fires_follow q checked s inv w seen (Fires.branch_as_guessed p i x l h d u g) = guessed_follows q s inv w seen p i l d x h u g
fires_follow q checked s inv w seen (Fires.branch_otherwise p i x l h d u g) = otherwise_follows q s inv w seen p i l d x h u
fires_follow q checked s inv w seen (Fires.fence p i l h d g) = fence_follows q s inv w seen p i l d h g
fires_follow q checked s inv w seen (Fires.load_forwarded p i a j v l h d z f near st g) = forwarded_follows q checked s inv w seen p i l d a z h f j v near st g
fires_follow q checked s inv w seen (Fires.load_from_memory p i a l h d z f none) = memory_follows q checked s inv w seen p i l d a z h f none
fires_follow q checked s inv w seen (Fires.store_data p i y l h d u) = data_follows q checked s inv w seen p i l y h d u
fires_follow q checked s inv w seen (Fires.store p i a d l h e z v b o c f) = store_follows q checked s inv w seen p i l e a z d h v b o c f
fires_follow q checked s inv w seen (Fires.address p i x l h d u none) = address_follows q s w seen p i l x h d u none
fires_follow q checked s inv w seen (Fires.address_removes p i x m l h d u first ld g) = removing_follows q s w seen p i l x h d u m first ld g

module _ (q : Litmus) where
  -- The cells of a world in which a run starts are those of the state.
  cell_started : (b : ℕ) → get_or (started q).cells b zero_cell ≡ start_cell (start_of q b)
  cell_started b = get_or-map start_cell q.start b 0

  core_started : (p : ℕ) → core_at (started q) p ≡ empty_core
  core_started p = get_or-map (λ (is : List Instruction). empty_core) q.code p []

  -- A world shows the state in which a run starts.
  started_seen : Seen (started q) (begin (code_of q) (start_of q))
  started_seen = record {
    rows = λ p. record {
      size = sym (ap (λ (c : Core). length c.entries) (core_started p));
      counter = sym (ap (λ (c : Core). c.counter) (core_started p));
      each = λ k l. absurd (omega (arith, ap (λ (c : Core). length c.entries) (core_started p)));
    };
    value = λ b. sym (ap (λ (c : Cell). c.value) (cell_started b));
    mark = λ b. sym (ap (λ (c : Cell). c.mark) (cell_started b));
    order = refl;
    begun = omega arith;
  }

  -- The state keeps its invariant, and a world that shows it the invariant of soundness.
  pub record Shown (s : State) : Type 0 where
    pub invariant : Invariant q s
    pub world : World
    pub held : Held (code_of q) (end_of q) (start_of q) world
    pub seen : Seen s world

  module _ (checked : Checked q) where
    step_shown : (s : State) (st : Step) → Shown s → (o : Outcome) → step_outcome q s st ≡ o → Shown (after s o)
    step_shown s st h (refused e) z = h
    step_shown s st h (went n t) z =
        let fires : Fires q s st n t = gone_fires q s st n t z in
        let next : Follows q h.world t = fires_follow q checked s h.invariant h.world h.seen fires in
        record {
          invariant = fires_keeps q s st n t checked h.invariant fires;
          world = next.world;
          held = step_held (code_of q) (end_of q) (start_of q) h.world next.world h.held next.step;
          seen = next.seen;
        }

    run_shown : (steps : List Step) (s : State) → Shown s → Shown (run_all q s steps)
    unfolding run_all
    run_shown [] s h = h
    run_shown (st ∷ steps) s h = run_shown steps (after s (step_outcome q s st)) (step_shown s st h (step_outcome q s st) refl)

    -- Every state that a run reaches is shown so.
    pub runs_shown : (steps : List Step) → Shown (run_all q (started q) steps)
    runs_shown steps = run_shown steps (started q) (record {
      invariant = started_keeps q checked;
      world = begin (code_of q) (start_of q);
      held = begin_held (code_of q) (end_of q) (code_of q) (start_of q);
      seen = started_seen;
    })
