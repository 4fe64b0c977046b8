-- A changed entry keeps what it has to keep, if what is new of it is right: done, or with its address or its data.
use Rattle.std.proofs.Common.{◌≡◌, ℕ, ◌+◌, true, false, Some, sym, ap, ◌∙◌, ap₂}
use Rattle.std.proofs.lemmas.Bool.{both_ways}
use Rattle.instructions.specs.Effects.{guessed_place}
use Rattle.instructions.specs.Kinds.{branches}
use Rattle.machine.specs.State.{State}
use Rattle.question.specs.Litmus.{Litmus, code_at, instruction_at}
use Rattle.rules.specs.declared.entry.Entry.{Entry}
use Rattle.reachable.specs.Entries.{InCode, AddressKnown, DataKnown, Finished, EntryKept}
use Rattle.reachable.specs.Laws.{Onward}

-- The same instruction at the same place.
pub record Alike (e f : Entry) : Type 0 where
  pub place : f.place ≡ e.place
  pub instruction : f.instruction ≡ e.instruction

-- What was not done went onward, if it kept its address and its data.
pub open_onward : (e f : Entry) → e.done ≡ false → Alike e f →
    ((a : ℕ) → e.address ≡ Some a → f.address ≡ Some a) → ((d : ℕ) → e.datum ≡ Some d → f.datum ≡ Some d) → Onward e f
open_onward e f w same a d = record {
  place = same.place;
  instruction = same.instruction;
  finished = λ h. absurd (both_ways e.done w h);
  address = a;
  datum = d;
}

module _ (q : Litmus) (s : State) (p i : ℕ) (e f : Entry) (same : Alike e f) (k : EntryKept q s p i e) where
  code_kept : InCode q p f
  code_kept = record {
    within = rw same.place k.in_code.within;
    there = same.instruction ∙ k.in_code.there ∙ ap (instruction_at (code_at q p)) (sym same.place);
  }

  address_kept : (a : ℕ) → AddressKnown s p i e a → AddressKnown s p i f a
  address_kept a h = record {
    accesses = rw same.instruction h.accesses;
    operand = h.operand;
    ready = rw same.instruction h.ready;
    sum = rw same.instruction h.sum;
  }

  data_kept : (d : ℕ) → DataKnown s p i e d → DataKnown s p i f d
  data_kept d h = record {
    is_store = rw same.instruction h.is_store;
    operand = h.operand;
    ready = rw same.instruction h.ready;
    sum = rw same.instruction h.sum;
  }

  straight_kept : (branches e.instruction ≡ false → f.next ≡ e.next) → branches f.instruction ≡ false → f.next ≡ f.place + 1
  straight_kept n h =
      let b : branches e.instruction ≡ false = ap branches (sym same.instruction) ∙ h in
      n b ∙ k.straight b ∙ ap (λ x. x + 1) (sym same.place)

  -- A done entry.
  pub done_kept : f.done ≡ true → f.address ≡ e.address → f.datum ≡ e.datum → (branches e.instruction ≡ false → f.next ≡ e.next) →
      Finished s p i f → EntryKept q s p i f
  done_kept d a u n w = record {
    in_code = code_kept;
    straight = straight_kept n;
    guessed = λ h. absurd (both_ways f.done h d);
    address = λ x h. address_kept x (k.address x (sym a ∙ h));
    datum = λ x h. data_kept x (k.datum x (sym u ∙ h));
    finished = λ h. w;
  }

  -- An entry that is not done yet.
  pub open_kept : f.done ≡ false → e.done ≡ false → f.next ≡ e.next →
      ((a : ℕ) → f.address ≡ Some a → (e.address ≡ Some a → AddressKnown s p i f a) → AddressKnown s p i f a) →
      ((d : ℕ) → f.datum ≡ Some d → (e.datum ≡ Some d → DataKnown s p i f d) → DataKnown s p i f d) → EntryKept q s p i f
  open_kept w v n a d = record {
    in_code = code_kept;
    straight = straight_kept (λ h. n);
    guessed = λ h. (let (taken, z) = k.guessed v in
        (taken, n ∙ z ∙ ap₂ (λ x y. guessed_place x y taken) (sym same.instruction) (sym same.place)));
    address = λ x h. a x h (λ y. address_kept x (k.address x y));
    datum = λ x h. d x h (λ y. data_kept x (k.datum x y));
    finished = λ h. absurd (both_ways f.done w h);
  }
