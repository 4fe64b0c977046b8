-- A local step that a related state accepts removes nothing and leads to a related state.
use Rattle.std.proofs.Common.{◌≡◌, ℕ, ◌<◌, true, length, sym, refl, ap, ◌∙◌, arith}
use Rattle.std.proofs.lemmas.Bool.{both_ways}
use Rattle.instructions.specs.Kinds.{access}
use Rattle.question.specs.Litmus.{Litmus}
use Rattle.witness.specs.Execution.{Execution}
use Rattle.events.specs.Sources.{path_at}
use Rattle.checker.specs.Terms.{AccessAt, LoadAt}
use Rattle.machine.specs.declared.step.Step.{Step}
use Rattle.machine.specs.Fires.{entry, instruction, Stands, Fires}
use Rattle.machine.specs.State.{State, core_at}
use Rattle.machine.specs.Steps.{changed, core_changed, step_outcome, went}
use Rattle.machine_laws.proofs.GoneFires.{gone_fires}
use Rattle.reachable.specs.Checked.{Checked}
use Rattle.reachable.proofs.Exclusive.{computes_quiet, branches_quiet, fences_quiet, load_accesses}
use Rattle.reachable.proofs.Runs.{fires_keeps, entries_go_onward}
use Rattle.reachable.proofs.Shapes.{put_whole}
use Rattle.rules.specs.Changes.{only}
use Rattle.rules.specs.declared.entry.Entry.{Entry}
use Rattle.completeness.specs.Rebuilds.{Local}
use Rattle.completeness.proofs.Related.{Related}
use Rattle.completeness.proofs.Values.{same_instruction, next_place_is}
use Rattle.completeness.proofs.Rule8.{meets_no_done_load}
use Rattle.completeness.proofs.OneEntry.{related_after}

-- No fetch, no load and no store is a local step.
local_rule : (st : Step) → Local st → (st.rule ≡ 1 → ⊥) × (st.rule ≡ 5 → ⊥) × (st.rule ≡ 7 → ⊥)
local_rule _ (Local.arithmetic p i) = (λ h. omega arith, λ h. omega arith, λ h. omega arith)
local_rule _ (Local.branch p i) = (λ h. omega arith, λ h. omega arith, λ h. omega arith)
local_rule _ (Local.fence p i) = (λ h. omega arith, λ h. omega arith, λ h. omega arith)
local_rule _ (Local.store_data p i) = (λ h. omega arith, λ h. omega arith, λ h. omega arith)
local_rule _ (Local.address p i) = (λ h. omega arith, λ h. omega arith, λ h. omega arith)

-- The same of an access: done or not, with its value and its mark.
record AccessSame (e f : Entry) : Type 0 where
  done : f.done ≡ e.done
  value : f.value ≡ e.value
  mark : f.mark ≡ e.mark

module _ (q : Litmus) (checked : Checked q) (w : Execution) (t : ℕ) (s : State) (R : Related q w t s) where
  on_path : (p i : ℕ) → Stands s p i → i < length (path_at w p)
  on_path p i x = omega (arith, x.1, R.whole p)

  -- One entry changed, at its place and with its next place, and of an access nothing but address or data.
  entry_related : (p i : ℕ) (e : Entry) (st : Step) → Stands s p i → Fires q s st 0 (changed s p i (only e)) →
      e.place ≡ (entry s p i).place → e.next ≡ (entry s p i).next → (access (instruction s p i) ≡ true → AccessSame (entry s p i) e) →
      Related q w t (changed s p i (only e))
  entry_related p i e st here f place next same =
      let u : State = changed s p i (only e) in
      related_after s u p i e (put_whole s u p (core_changed (core_at s p) i (only e)) here.0 refl i e here.1 refl) q w t t R
      (fires_keeps q s st 0 u checked R.invariant f) (entries_go_onward q s st 0 u R.invariant f) place next (on_path p i here)
      (λ x d. let z = same (loads_here x) in let y = R.sourced p i x (sym z.done ∙ d) in record { value = z.value ∙ y.value; mark = z.mark ∙ y.mark })
      (λ x. let z = same (accesses_here x) in (λ d. (R.done_is p i x).0 (sym z.done ∙ d), λ b. z.done ∙ (R.done_is p i x).1 b))
      (λ r j n. R.done_is r j)
      R.order R.cells
      (λ x d. R.safe p i x (sym (same (loads_here x)).done ∙ d))
    where
      accesses_here : AccessAt q w p i → access (instruction s p i) ≡ true
      accesses_here x = ap access (same_instruction q w t s R p i) ∙ x.1

      loads_here : LoadAt q w p i → access (instruction s p i) ≡ true
      loads_here x = accesses_here (x.0, load_accesses _ x.1)

  by_rule : {st : Step} {n : ℕ} {u : State} → Local st → Fires q s st n u → (n ≡ 0) × Related q w t u
  by_rule local (Fires.fetch_taken p a b c d) = absurd ((local_rule _ local).0 refl)
  by_rule local (Fires.fetch p a b c) = absurd ((local_rule _ local).0 refl)
  by_rule local (Fires.arithmetic p i x y here k d a b) =
      (refl, entry_related p i _ _ here (Fires.arithmetic p i x y here k d a b) refl refl (λ z. absurd (both_ways (access (instruction s p i)) (computes_quiet _ k).no_access z)))
  by_rule local (Fires.branch_as_guessed p i x here k d a e) =
      (refl, entry_related p i _ _ here (Fires.branch_as_guessed p i x here k d a e) refl (sym e) (λ z. absurd (both_ways (access (instruction s p i)) (branches_quiet _ k).no_access z)))
  by_rule local (Fires.branch_otherwise p i x here k d a e) =
      absurd (e (R.nexts p i (on_path p i here) ∙ sym (next_place_is q w t s R p i (on_path p i here) x a)))
  by_rule local (Fires.fence p i here k d a) =
      (refl, entry_related p i _ _ here (Fires.fence p i here k d a) refl refl (λ z. absurd (both_ways (access (instruction s p i)) (fences_quiet _ k).no_access z)))
  by_rule local (Fires.load_forwarded p i a j v b c d e f g h k) = absurd ((local_rule _ local).1 refl)
  by_rule local (Fires.load_from_memory p i a b c d e f g) = absurd ((local_rule _ local).1 refl)
  by_rule local (Fires.store_data p i y here k d a) =
      (refl, entry_related p i _ _ here (Fires.store_data p i y here k d a) refl refl (λ z. record { done = refl; value = refl; mark = refl }))
  by_rule local (Fires.store p i a d b c e f g h k l m) = absurd ((local_rule _ local).2 refl)
  by_rule local (Fires.address p i x here k d a e) =
      (refl, entry_related p i _ _ here (Fires.address p i x here k d a e) refl refl (λ z. record { done = refl; value = refl; mark = refl }))
  by_rule local (Fires.address_removes p i x m here k d a f ld dn) =
      absurd (meets_no_done_load q w t s R p i (on_path p i here) k d x a m f ld dn)

  -- A local step that is accepted.
  pub local_goes : (st : Step) (n : ℕ) (u : State) → Local st → step_outcome q s st ≡ went n u → (n ≡ 0) × Related q w t u
  local_goes st n u local h = by_rule local (gone_fires q s st n u h)
