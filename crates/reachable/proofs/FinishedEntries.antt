-- An entry that rule 2, 3, 4, 5 or 7 leaves done is finished: it is worked out, and what it waits for has happened.
use Rattle.std.proofs.Common.{◌≡◌, ℕ, true, false, is_some, Some, None, Option, sym, refl, ◌∙◌, subst, inl, inr}
use Rattle.std.proofs.lemmas.Bool.{both_ways, cases_Bool}
use Rattle.instructions.specs.Effects.{arithmetic_result, next_place}
use Rattle.instructions.specs.Kinds.{loads, stores, access, computes, branches, fences, fence_from, fence_to, first_operand, second_operand}
use Rattle.instructions.specs.declared.instruction.AccessType.TheVariants as access_type
use Rattle.machine.specs.Fires.{entry, Older, Ready, OpenTo}
use Rattle.machine.specs.State.{State}
use Rattle.memory.specs.declared.cell.Mark.{Mark}
use Rattle.question.specs.Litmus.{Litmus}
use Rattle.rules.specs.Entries.{done_with, turned, loaded}
use Rattle.rules.specs.Tests.{same_cell}
use Rattle.rules.specs.declared.entry.Entry.{Entry}
use Rattle.reachable.specs.Entries.{WorkedOut, FenceWaited, LoadWaited, Finished, EntryKept}
use Rattle.reachable.proofs.Exclusive.{Quiet, computes_quiet, branches_quiet, fences_quiet, computes_no_branch, fences_no_branch, accesses_no_branch, branches_compute_nothing, fences_compute_nothing, accesses_compute_nothing, computes_no_fence, branches_no_fence, accesses_no_fence, load_accesses, store_accesses, loads_no_store, stores_no_load, branches_one_operand, loads_one_operand, fences_no_first, fences_no_second, straight_next}
use Rattle.reachable.proofs.Moved.{available}

-- An absent operand is ready.
pub absent_ready : (s : State) (p i : ℕ) (o : Option ℕ) → o ≡ None → Ready s p i o 0
absent_ready s p i o h = subst (λ x. Ready s p i x 0) (sym h) Ready.absent

-- Where no access is not done, all are done.
pub none_open : (s : State) (p i a : ℕ) → Older s p i (λ o. OpenTo a o → ⊥) → Older s p i (λ o. access o.instruction ≡ true → same_cell a o.address ≡ true → o.done ≡ true)
none_open s p i a h j l x c = elim (cases_Bool (entry s p j).done) [ inl d ↦ d | inr d ↦ absurd (h j l (x, d, c)) ]

module _ (q : Litmus) (s : State) (p i : ℕ) (e : Entry) (k : EntryKept q s p i e) where
  -- What is no access, once it is worked out.
  quiet_finished : (f : Entry) → Quiet f.instruction → WorkedOut s p i f → FenceWaited s p i f → Finished s p i f
  quiet_finished f z w fence = record {
    worked_out = w;
    has_address = λ h. absurd (both_ways (access f.instruction) z.no_access h);
    has_data = λ h. absurd (both_ways (stores f.instruction) z.no_store h);
    fence = fence;
    load = λ h. absurd (both_ways (loads f.instruction) z.no_load h);
    store = λ h. absurd (both_ways (stores f.instruction) z.no_store h);
  }

  -- What is no branch leads to its true next place.
  straight_on : (x : ℕ) → branches e.instruction ≡ false → e.next ≡ next_place e.instruction e.place x
  straight_on x h = k.straight h ∙ sym (straight_next e.instruction e.place x h)

  -- Rule 2.
  pub computed_finished : computes e.instruction ≡ true → (x y : ℕ) → Ready s p i (first_operand e.instruction) x → Ready s p i (second_operand e.instruction) y →
      Finished s p i (done_with e (arithmetic_result e.instruction x y))
  computed_finished h x y u v = quiet_finished _ (computes_quiet e.instruction h) (record {
    first = x;
    second = y;
    first_ready = u;
    second_ready = v;
    value = λ z. refl;
    next = straight_on x (computes_no_branch e.instruction h);
  }) (λ t z. absurd (both_ways (fence_from t e.instruction) (computes_no_fence t e.instruction h) z))

  -- Rule 3.
  pub branch_finished : branches e.instruction ≡ true → (x : ℕ) → Ready s p i (first_operand e.instruction) x →
      Finished s p i (turned e (next_place e.instruction e.place x))
  branch_finished h x u = quiet_finished _ (branches_quiet e.instruction h) (record {
    first = x;
    second = 0;
    first_ready = u;
    second_ready = absent_ready s p i _ (branches_one_operand e.instruction h);
    value = λ z. absurd (both_ways (computes e.instruction) (branches_compute_nothing e.instruction h) z);
    next = refl;
  }) (λ t z. absurd (both_ways (fence_from t e.instruction) (branches_no_fence t e.instruction h) z))

  -- Rule 4.
  pub fence_finished : fences e.instruction ≡ true → FenceWaited s p i e → Finished s p i (done_with e e.value)
  fence_finished h w = quiet_finished _ (fences_quiet e.instruction h) (record {
    first = 0;
    second = 0;
    first_ready = absent_ready s p i _ (fences_no_first e.instruction h);
    second_ready = absent_ready s p i _ (fences_no_second e.instruction h);
    value = λ z. absurd (both_ways (computes e.instruction) (fences_compute_nothing e.instruction h) z);
    next = straight_on 0 (fences_no_branch e.instruction h);
  }) w

  module _ (a : ℕ) (known : e.address ≡ Some a) where
    -- Rule 5.
    pub load_finished : loads e.instruction ≡ true → (v : ℕ) (m : Mark) → LoadWaited s p i → Finished s p i (loaded e v m)
    load_finished h v m w = record {
      worked_out = record {
        first = (k.address a known).operand;
        second = 0;
        first_ready = (k.address a known).ready;
        second_ready = absent_ready s p i _ (loads_one_operand e.instruction h);
        value = λ z. absurd (both_ways (computes e.instruction) (accesses_compute_nothing e.instruction (load_accesses e.instruction h)) z);
        next = straight_on _ (accesses_no_branch e.instruction (load_accesses e.instruction h));
      };
      has_address = λ z. available e.address a known;
      has_data = λ z. absurd (both_ways (stores e.instruction) (loads_no_store e.instruction h) z);
      fence = λ t z. absurd (both_ways (fence_from t e.instruction) (accesses_no_fence t e.instruction (load_accesses e.instruction h)) z);
      load = λ z. w;
      store = λ z. absurd (both_ways (stores e.instruction) (loads_no_store e.instruction h) z);
    }

    -- Rule 7.
    pub store_finished : stores e.instruction ≡ true → (d : ℕ) → e.datum ≡ Some d →
        Older s p i (λ o. branches o.instruction ≡ true → o.done ≡ true) →
        Older s p i (λ o. access o.instruction ≡ true → is_some o.address ≡ true) →
        Older s p i (λ o. OpenTo a o → ⊥) →
        Older s p i (λ o. fence_to access_type.Store o.instruction ≡ true → o.done ≡ true) →
        Finished s p i (done_with e e.value)
    store_finished h d u b o c f = record {
      worked_out = record {
        first = (k.address a known).operand;
        second = (k.datum d u).operand;
        first_ready = (k.address a known).ready;
        second_ready = (k.datum d u).ready;
        value = λ z. absurd (both_ways (computes e.instruction) (accesses_compute_nothing e.instruction (store_accesses e.instruction h)) z);
        next = straight_on _ (accesses_no_branch e.instruction (store_accesses e.instruction h));
      };
      has_address = λ z. available e.address a known;
      has_data = λ z. available e.datum d u;
      fence = λ t z. absurd (both_ways (fence_from t e.instruction) (accesses_no_fence t e.instruction (store_accesses e.instruction h)) z);
      load = λ z. absurd (both_ways (loads e.instruction) (stores_no_load e.instruction h) z);
      store = λ z. record {
        older_branches = b;
        older_addresses = o;
        same_cell_done = λ x y. none_open s p i x (subst (λ n. Older s p i (λ v. OpenTo n v → ⊥)) (same_address x y) c);
        older_fences = f;
      };
    }
      where
        same_address : (x : ℕ) → e.address ≡ Some x → a ≡ x
        same_address x y = cc
