-- Where every entry is done, the events of the witness are the entries: place, instruction, next place, value, address and data.
use Rattle.std.proofs.Common.{◌≡◌, ℕ, zero, suc, ◌<◌, ◌≤◌, true, false, ◌⊎◌, List, length, Some, None, Option, sym, refl, ap, ◌∙◌, ap₂, inl, inr, arith}
use Rattle.std.proofs.lemmas.Bool.{cond-true, cond-false}
use Rattle.instructions.specs.Effects.{arithmetic_result, address_sum, data_sum, next_place}
use Rattle.instructions.specs.Kinds.{loads, computes, first_operand, second_operand, writes}
use Rattle.instructions.specs.declared.instruction.Instruction.{Instruction}
use Rattle.instructions.specs.declared.instruction.Instruction.TheVariants.{Add, Subtract, Load, Store, Branch, Fence}
use Rattle.machine.specs.Fires.{buffer, entry, instruction, Ready}
use Rattle.machine.specs.Results.{source_record, value_at, register_value, witness_of_state}
use Rattle.machine.specs.State.{State}
use Rattle.memory.specs.declared.cell.Mark.{Mark}
use Rattle.memory.specs.declared.cell.Mark.TheVariants as marks
use Rattle.question.specs.Litmus.{Litmus}
use Rattle.rules.specs.Ready.{writer as entry_writer, writes_register as entry_writes}
use Rattle.rules.specs.Entries.{blank}
use Rattle.search.specs.Search.{passes}
use Rattle.search.proofs.Searches.{nearest_is, nearest_is_none, nearest_same, nearest_some, passes_at}
use Rattle.witness.specs.Execution.{Execution}
use Rattle.events.specs.declared.event.Event.{Event}
use Rattle.events.specs.Events.{no_event, at, writes_register, writer, result_of, operand, event_of}
use Rattle.events.specs.Sources.{path_at, source_at, events}
use Rattle.checker_laws.proofs.Built.{length_events, path_event_is}
use Rattle.reachable.specs.Entries.{WorkedOut}
use Rattle.reachable.specs.Invariant.{Invariant}
use Rattle.soundness.proofs.KindFacts.{true_not_false}
use Rattle.soundness.proofs.WitnessRows.{path_length, place_run, instruction_run_is, source_is}

-- What writes a register loads or computes.
writer_kind : (c : Instruction) (r : ℕ) → writes c r ≡ true → (loads c ≡ true) ⊎ ((loads c ≡ false) × (computes c ≡ true))
writer_kind (Add d s1 s2 k) r h = inr (refl, refl)
writer_kind (Subtract d s1 s2 k) r h = inr (refl, refl)
writer_kind (Load d s1 k) r h = inl refl
writer_kind (Store s1 s2 k j) r h = absurd (true_not_false (sym h))
writer_kind (Branch s1 k j) r h = absurd (true_not_false (sym h))
writer_kind (Fence a b) r h = absurd (true_not_false (sym h))

-- The value of a source record.
record_value : (m : Mark) (v : ℕ) → (source_record m v).value ≡ v
record_value marks.Start v = refl
record_value (marks.Store p i) v = refl

-- Every entry is done.
abbrev pub AllDone : State → Type 0
AllDone s = (p i : ℕ) → i < length (buffer s p) → (entry s p i).done ≡ true

module _ (q : Litmus) (s : State) (inv : Invariant q s) (done : AllDone s) (p : ℕ) where
  abbrev w : Execution
  w = witness_of_state s

  abbrev es : List Event
  es = events q w p

  -- As many events as entries.
  pub events_length : length es ≡ length (buffer s p)
  events_length = length_events q w p ∙ path_length q s inv p

  -- What an entry was worked out from.
  abbrev worked : (i : ℕ) (l : i < length (buffer s p)) → WorkedOut s p i (entry s p i)
  worked i l = ((inv.entries p i l).finished (done p i l)).worked_out

  event_run : (i : ℕ) → i < length (buffer s p) →
      at es i ≡ event_of (instruction s p i) (entry s p i).place (source_at q w p i).value
      (operand es i (first_operand (instruction s p i))) (operand es i (second_operand (instruction s p i)))
  event_run i l =
      path_event_is q w p i (omega (arith, path_length q s inv p))
      ∙ ap₂ (λ c n. event_of c n (source_at q w p i).value (operand es i (first_operand c)) (operand es i (second_operand c)))
      (instruction_run_is q s inv p i l) (place_run q s inv p i)

  pub event_instruction : (i : ℕ) → i < length (buffer s p) → (at es i).instruction ≡ instruction s p i
  event_instruction i l = ap (λ (e : Event). e.instruction) (event_run i l)

  pub event_place : (i : ℕ) → i < length (buffer s p) → (at es i).place ≡ (entry s p i).place
  event_place i l = ap (λ (e : Event). e.place) (event_run i l)

  -- Which events write a register.
  event_writes : (r i : ℕ) → i < length (buffer s p) → passes (writes_register r) es i ≡ writes (instruction s p i) r
  event_writes r i l =
      passes_at (writes_register r) es i no_event (omega (arith, events_length))
      ∙ ap (λ c. writes c r) (event_instruction i l)

  -- The event has the entry's value, if the entry writes a register.
  abbrev Agrees : ℕ → Type 0
  Agrees i = (r : ℕ) → writes (instruction s p i) r ≡ true → (at es i).value ≡ (entry s p i).value

  -- A ready operand has its value on the path.
  operand_agrees : (i : ℕ) → i ≤ length (buffer s p) → ((k : ℕ) → k < i → Agrees k) → {o : Option ℕ} {v : ℕ} → Ready s p i o v → operand es i o ≡ v
  operand_agrees i l below Ready.absent = refl
  operand_agrees i l below (Ready.unwritten r h) =
      ap (result_of es) (nearest_is_none (passes (writes_register r) es) i (λ m b. event_writes r m (omega arith) ∙ h m b))
  operand_agrees i l below (Ready.from_writer r j b h none d) =
      ap (result_of es) (nearest_is (passes (writes_register r) es) i j (record {
        below = b;
        hit = event_writes r j (omega arith) ∙ h;
        between = λ m c k. event_writes r m (omega arith) ∙ none m c k;
      }))
      ∙ below j b r h

  -- An event has the entry's value where those before it do.
  agrees_next : (i : ℕ) → i < length (buffer s p) → ((k : ℕ) → k < i → Agrees k) → Agrees i
  agrees_next i l below r h = ap (λ (e : Event). e.value) (event_run i l) ∙ elim (writer_kind (instruction s p i) r h) [
    | inl c ↦ cond-true _ _ _ c ∙ ap (λ (x : _). x.value) (source_is q s inv p i l c) ∙ record_value (entry s p i).mark (entry s p i).value
    | inr c ↦ cond-false _ _ _ c.0
        ∙ ap₂ (arithmetic_result (instruction s p i)) (operand_agrees i (omega arith) below (worked i l).first_ready) (operand_agrees i (omega arith) below (worked i l).second_ready)
        ∙ sym ((worked i l).value c.1)
  ]

  agrees_below : (n i : ℕ) → i < n → i < length (buffer s p) → Agrees i
  agrees_below zero i l b = absurd (omega arith)
  agrees_below (suc n) i l b = agrees_next i b (λ k h. agrees_below n k (omega arith) (omega arith))

  -- An event that writes a register has the entry's value.
  pub event_value : (i : ℕ) → i < length (buffer s p) → (r : ℕ) → writes (instruction s p i) r ≡ true → (at es i).value ≡ (entry s p i).value
  event_value i l = agrees_below (suc i) i (omega arith) l

  -- A ready operand has its value on the path.
  pub operand_is : (i : ℕ) → i ≤ length (buffer s p) → {o : Option ℕ} {v : ℕ} → Ready s p i o v → operand es i o ≡ v
  operand_is i l u = operand_agrees i l (λ k h. event_value k (omega arith)) u

  -- An event leads where the entry leads.
  pub event_next : (i : ℕ) → i < length (buffer s p) → (at es i).next ≡ (entry s p i).next
  event_next i l =
      ap (λ (e : Event). e.next) (event_run i l)
      ∙ ap (next_place (instruction s p i) (entry s p i).place) (operand_is i (omega arith) (worked i l).first_ready)
      ∙ sym (worked i l).next

  -- An event has the entry's address, and its data.
  pub event_address : (i a : ℕ) → i < length (buffer s p) → (entry s p i).address ≡ Some a → (at es i).address ≡ a
  event_address i a l h =
      ap (λ (e : Event). e.address) (event_run i l)
      ∙ ap (address_sum (instruction s p i)) (operand_is i (omega arith) ((inv.entries p i l).address a h).ready)
      ∙ sym ((inv.entries p i l).address a h).sum

  pub event_datum : (i d : ℕ) → i < length (buffer s p) → (entry s p i).datum ≡ Some d → (at es i).datum ≡ d
  event_datum i d l h =
      ap (λ (e : Event). e.datum) (event_run i l)
      ∙ ap (data_sum (instruction s p i)) (operand_is i (omega arith) ((inv.entries p i l).datum d h).ready)
      ∙ sym ((inv.entries p i l).datum d h).sum

  -- The results of writers that are the same.
  results_same : (r : ℕ) (o : Option ℕ) → ((k : ℕ) → o ≡ Some k → (k < length (buffer s p)) × (writes (instruction s p k) r ≡ true)) → result_of es o ≡ value_at (buffer s p) o
  results_same r None h = refl
  results_same r (Some k) h = event_value k (h k refl).0 r (h k refl).1

  writers_same : (r : ℕ) → writer es r (length (path_at w p)) ≡ entry_writer (buffer s p) r (length (buffer s p))
  writers_same r =
      ap (λ n. writer es r n) (path_length q s inv p)
      ∙ nearest_same (passes (writes_register r) es) (passes (entry_writes r) (buffer s p)) (length (buffer s p))
      (λ k l. event_writes r k l ∙ sym (passes_at (entry_writes r) (buffer s p) k blank l))

  -- What the path leaves in a register is what the buffer does.
  pub register_is : (r : ℕ) → operand es (length (path_at w p)) (Some r) ≡ register_value (buffer s p) r
  register_is r =
      ap (result_of es) (writers_same r)
      ∙ results_same r (entry_writer (buffer s p) r (length (buffer s p))) (λ k h.
      let n = nearest_some (passes (entry_writes r) (buffer s p)) (length (buffer s p)) k h in
      (n.below, sym (passes_at (entry_writes r) (buffer s p) k blank n.below) ∙ n.hit))
