-- The next access of the order: what is kept before it is done, no other access has its number, and once it is carried out the state is related again.
use Rattle.std.proofs.Common.{◌≡◌, ℕ, suc, ◌<◌, true, false, ◌↔◌, List, [], ◌∷◌, ◌++◌, length, get_or, take, set, sym, refl, ap, ◌∙◌, subst, ap₂, arith, take-suc}
use Rattle.std.proofs.lemmas.Bool.{ltb-true}
use Rattle.instructions.specs.Kinds.{access}
use Rattle.memory.specs.Cells.{zero_cell}
use Rattle.question.specs.Litmus.{Litmus}
use Rattle.witness.specs.Execution.{Execution}
use Rattle.witness.specs.declared.record.Access.{Access}
use Rattle.events.specs.Sources.{source_at, events}
use Rattle.ordering.specs.Closure.{Closure}
use Rattle.ordering.specs.Rules.{gam, instruction_of, cell_of}
use Rattle.checker.specs.Axioms.{Axioms}
use Rattle.checker.specs.Terms.{access_at, AccessAt, LoadAt}
use Rattle.checker.specs.Tests.{ordered, rank}
use Rattle.checker_laws.proofs.Bounds.{not_passing}
use Rattle.checker_laws.proofs.Closed.{closure_forward}
use Rattle.checker_laws.proofs.Earlier.{gam_earlier}
use Rattle.checker_laws.proofs.Ranks.{rank_stands, precedes_is}
use Rattle.machine.specs.declared.step.Step.{Step}
use Rattle.machine.specs.Fires.{buffer, entry, Fires}
use Rattle.machine.specs.State.{Core, State, core_at}
use Rattle.machine.specs.Steps.{joined}
use Rattle.reachable.specs.Checked.{Checked}
use Rattle.reachable.proofs.Runs.{fires_keeps, entries_go_onward, order_never_cut}
use Rattle.reachable.proofs.Shapes.{put_whole}
use Rattle.rules.specs.declared.entry.Entry.{Entry}
use Rattle.completeness.proofs.Related.{Related, Safe, SourcedAsStated, cell_after}
use Rattle.completeness.proofs.Values.{same_instruction, stands}
use Rattle.completeness.proofs.OneEntry.{related_after}

module _ (q : Litmus) (w : Execution) (A : Axioms gam q w) where
  -- What is kept before an access has a lower number.
  pub kept_lower : (p i j : ℕ) → AccessAt q w p i → AccessAt q w p j → Closure (gam (events q w p)) i j → rank q w p i < rank q w p j
  kept_lower p i j a b c = ltb-true _ _ ((precedes_is q w A.order p i p j a b).1 (A.inst_order p i j a b c))

  module _ (t : ℕ) (s : State) (R : Related q w t s) (p i : ℕ) (here : AccessAt q w p i) (now : rank q w p i ≡ t) where
    -- Every access that is kept before it is done.
    pub next_cleared : (j : ℕ) → Closure (gam (events q w p)) j i → access (instruction_of (events q w p) j) ≡ true → (entry s p j).done ≡ true
    next_cleared j c a =
        let l : j < i = closure_forward (gam_earlier (instruction_of (events q w p)) (cell_of (events q w p))) j i c in
        let b : AccessAt q w p j = (omega (arith, here.0), a) in
        (R.done_is p j b).1 (omega (arith, kept_lower p j i b here c))

    -- It stands at number t.
    pub next_number : t < length w.order
    next_number = omega (arith, (rank_stands q w A.order p i here).0)

    pub next_stands : ordered q w t ≡ access_at p i
    next_stands = subst (λ k. ordered q w k ≡ access_at p i) now (rank_stands q w A.order p i here).1

    -- It is not done.
    pub next_waits : (entry s p i).done ≡ false
    next_waits = not_passing (entry s p i).done (λ d. let b : rank q w p i < t = (R.done_is p i here).0 d in omega arith)

    -- No other access has its number.
    alone : (r j : ℕ) → AccessAt q w r j → rank q w r j ≡ t → access_at r j ≡ access_at p i
    alone r j a e = sym (rank_stands q w A.order r j a).1 ∙ ap (ordered q w) e ∙ next_stands

    others_done : (r j : ℕ) → (r ≡ p → j ≡ i → ⊥) → AccessAt q w r j → ((entry s r j).done ≡ true) ↔ (rank q w r j < suc t)
    others_done r j n a =
        let z : rank q w r j ≡ t → ⊥ = (λ e. n (ap (λ (x : Access). x.processor) (alone r j a e)) (ap (λ (x : Access). x.position) (alone r j a e))) in
        (λ d. let b : rank q w r j < t = (R.done_is r j a).0 d in omega arith, λ b. (R.done_is r j a).1 (omega arith))

    module _ (checked : Checked q) where
      -- The order with it is one longer.
      order_next : joined s.order (access_at p i) ≡ take (suc t) w.order
      order_next =
          order_never_cut q s checked R.invariant p i (stands q w t s R p i here.0).1 (ap access (same_instruction q w t s R p i) ∙ here.1) next_waits
          ∙ ap₂ (λ (xs : List Access) (x : Access). xs ++ x ∷ []) R.order (sym next_stands)
          ∙ sym (take-suc w.order t (access_at 0 0) next_number)

      module _ (u : State) (st : Step) (fires : Fires q s st 0 u) (e : Entry)
          (cores : u.cores ≡ set s.cores p (record { counter = (core_at s p).counter; entries = set (buffer s p) i e })) (order : u.order ≡ joined s.order (access_at p i)) where
        -- Carried out, it leads to a related state.
        pub related_next : e.place ≡ (entry s p i).place → e.next ≡ (entry s p i).next → e.done ≡ true →
            (LoadAt q w p i → SourcedAsStated e (source_at q w p i)) →
            ((a : ℕ) → a < 16 → get_or u.cells a zero_cell ≡ cell_after q w (suc t) a) →
            (LoadAt q w p i → Safe q w s p i) →
            Related q w (suc t) u
        related_next place next done sourced cells safe =
            let (there, within) = stands q w t s R p i here.0 in
            let c : Core = record { counter = (core_at s p).counter; entries = set (buffer s p) i e } in
            related_after s u p i e (put_whole s u p c there cores i e within refl) q w t (suc t) R
            (fires_keeps q s st 0 u checked R.invariant fires) (entries_go_onward q s st 0 u R.invariant fires) place next here.0
            (λ x d. sourced x) (λ a. (λ d. omega arith, λ b. done)) others_done (order ∙ order_next) cells (λ x d. safe x)
