-- What an entry keeps, it keeps in a state whose older entries are those of before, or went onward.
use Rattle.std.proofs.Common.{◌≡◌, ℕ, ◌<◌, Bool, true, is_some, Some, None, Option, sym, refl, ap, ◌∙◌, subst, arith}
use Rattle.instructions.specs.declared.instruction.Instruction.{Instruction}
use Rattle.instructions.specs.Kinds.{access, branches, of_type, fence_to}
use Rattle.instructions.specs.declared.instruction.AccessType.TheVariants as access_type
use Rattle.machine.specs.Fires.{entry, Older, Ready}
use Rattle.machine.specs.State.{State}
use Rattle.question.specs.Litmus.{Litmus}
use Rattle.rules.specs.Tests.{same_cell}
use Rattle.rules.specs.declared.entry.Entry.{Entry}
use Rattle.reachable.specs.Entries.{AddressKnown, DataKnown, WorkedOut, StoreWaited, Finished, EntryKept}
use Rattle.reachable.specs.Laws.{Onward}

-- An entry that did not change went onward.
pub onward_same : (e f : Entry) → f ≡ e → Onward e f
onward_same e f h = record {
  place = ap (λ x. x.place) h;
  instruction = ap (λ x. x.instruction) h;
  finished = λ d. h;
  address = λ a k. ap (λ x. x.address) h ∙ k;
  datum = λ a k. ap (λ x. x.datum) h ∙ k;
}

-- What is available is something.
pub known : (o : Option ℕ) → is_some o ≡ true → (a : ℕ) × (o ≡ Some a)
known (Some a) h = (a, refl)
known None h = absurd (let z : ◌≡◌ {A = ℕ} 0 1 = cc in omega arith)

-- Something is available.
pub available : (o : Option ℕ) (a : ℕ) → o ≡ Some a → is_some o ≡ true
available o a h = ap is_some h

-- An available address stays.
pub onward_available : (e f : Entry) → Onward e f → is_some e.address ≡ true → is_some f.address ≡ true
onward_available e f g h = let (a, k) = known e.address h in available f.address a (g.address a k)

-- What is done stays done.
pub onward_done : (e f : Entry) → Onward e f → e.done ≡ true → f.done ≡ true
onward_done e f g h = ap (λ x. x.done) (g.finished h) ∙ h

module _ (s t : State) (p i : ℕ) (older : (j : ℕ) → j < i → Onward (entry s p j) (entry t p j)) where
  -- A ready operand stays ready, with its value.
  pub ready_moved : {o : Option ℕ} {x : ℕ} → Ready s p i o x → Ready t p i o x
  ready_moved Ready.absent = Ready.absent
  ready_moved (Ready.unwritten r h) = Ready.unwritten r (λ j l. rw (older j l).instruction (h j l))
  ready_moved (Ready.from_writer r j l w none d) =
      subst (λ v. Ready t p i (Some r) v) (ap (λ e. e.value) ((older j l).finished d))
      (Ready.from_writer r j l (rw (older j l).instruction w) (λ k a b. rw (older k b).instruction (none k a b)) (onward_done _ _ (older j l) d))

  -- Older entries of a kind stay done.
  pub done_moved : (kind : Instruction → Bool) → Older s p i (λ o. kind o.instruction ≡ true → o.done ≡ true) →
      Older t p i (λ o. kind o.instruction ≡ true → o.done ≡ true)
  done_moved kind h j l k = onward_done _ _ (older j l) (h j l (ap kind (sym (older j l).instruction) ∙ k))

  module _ (e : Entry) where
    address_moved : (a : ℕ) → AddressKnown s p i e a → AddressKnown t p i e a
    address_moved a k = record { accesses = k.accesses; operand = k.operand; ready = ready_moved k.ready; sum = k.sum }

    data_moved : (d : ℕ) → DataKnown s p i e d → DataKnown t p i e d
    data_moved d k = record { is_store = k.is_store; operand = k.operand; ready = ready_moved k.ready; sum = k.sum }

    worked_moved : WorkedOut s p i e → WorkedOut t p i e
    worked_moved w = record {
      first = w.first;
      second = w.second;
      first_ready = ready_moved w.first_ready;
      second_ready = ready_moved w.second_ready;
      value = w.value;
      next = w.next;
    }

    -- An older access to the cell had its address before, and so was done.
    cell_moved : StoreWaited s p i e → (a : ℕ) → e.address ≡ Some a →
        Older t p i (λ o. access o.instruction ≡ true → same_cell a o.address ≡ true → o.done ≡ true)
    cell_moved w a k j l x c =
        let y : access (entry s p j).instruction ≡ true = ap access (sym (older j l).instruction) ∙ x in
        let (b, h) = known (entry s p j).address (w.older_addresses j l y) in
        let z : same_cell a (entry s p j).address ≡ true = ap (same_cell a) (h ∙ sym ((older j l).address b h)) ∙ c in
        onward_done _ _ (older j l) (w.same_cell_done a k j l y z)

    store_moved : StoreWaited s p i e → StoreWaited t p i e
    store_moved w = record {
      older_branches = done_moved branches w.older_branches;
      older_addresses = λ j l x. onward_available _ _ (older j l) (w.older_addresses j l (ap access (sym (older j l).instruction) ∙ x));
      same_cell_done = cell_moved w;
      older_fences = done_moved (fence_to access_type.Store) w.older_fences;
    }

    finished_moved : Finished s p i e → Finished t p i e
    finished_moved f = record {
      worked_out = worked_moved f.worked_out;
      has_address = f.has_address;
      has_data = f.has_data;
      fence = λ a h. done_moved (of_type a) (f.fence a h);
      load = λ h. done_moved (fence_to access_type.Load) (f.load h);
      store = λ h. store_moved (f.store h);
    }

    -- An entry keeps what it kept.
    pub kept_moved : (q : Litmus) → EntryKept q s p i e → EntryKept q t p i e
    kept_moved q k = record {
      in_code = k.in_code;
      straight = k.straight;
      guessed = k.guessed;
      address = λ a h. address_moved a (k.address a h);
      datum = λ d h. data_moved d (k.datum d h);
      finished = λ d. finished_moved (k.finished d);
    }
