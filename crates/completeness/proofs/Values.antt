-- What is available in a related state equals what the events have: instructions, ready operands, results, addresses and data.
use Rattle.std.proofs.Common.{◌≡◌, ℕ, zero, suc, ◌<◌, ◌≤◌, true, cond, length, get_or, Some, Option, sym, refl, ap, ◌∙◌, subst, ap₂, inl, inr, arith}
use Rattle.std.proofs.lemmas.List.{get_or_past}
use Rattle.std.proofs.lemmas.Bool.{cases_lt, cond-true, cond-false}
use Rattle.instructions.specs.Effects.{arithmetic_result, address_sum, data_sum, next_place}
use Rattle.instructions.specs.Kinds.{loads, computes, first_operand, second_operand, writes}
use Rattle.question.specs.Litmus.{Litmus, code_at, instruction_at}
use Rattle.search.specs.Search.{nearest, passes, Nearest, NoneBelow}
use Rattle.search.proofs.Searches.{nearest_same, nearest_is, nearest_is_none, passes_at}
use Rattle.witness.specs.Execution.{Execution}
use Rattle.events.specs.declared.event.Event.{Event}
use Rattle.events.specs.Events.{no_event, writes_register, writer, result_of, operand}
use Rattle.events.specs.Sources.{path_at, source_at, events}
use Rattle.checker.specs.Terms.{event}
use Rattle.checker.specs.Terms as terms
use Rattle.checker_laws.proofs.Built.{length_events, path_event_is, past_is, instruction_is, instruction_run}
use Rattle.machine.specs.Fires.{buffer, entry, instruction, Stands, Ready}
use Rattle.machine.specs.State.{State}
use Rattle.reachable.proofs.Exclusive.{computes_quiet}
use Rattle.reachable.proofs.Orders.{stands_there}
use Rattle.rules.specs.Entries.{blank}
use Rattle.rules.specs.declared.entry.Entry.{Entry}
use Rattle.completeness.proofs.KindFacts.{writer_kind}
use Rattle.completeness.proofs.Related.{Related}

-- Strong induction.
strong_below : (P : ℕ → Type 0) → ((j : ℕ) → ((k : ℕ) → k < j → P k) → P j) → (n m : ℕ) → m < n → P m
strong_below P step zero m l = absurd (omega arith)
strong_below P step (suc n) m l = step m (λ k h. strong_below P step n k (omega arith))

pub strong : (P : ℕ → Type 0) → ((j : ℕ) → ((k : ℕ) → k < j → P k) → P j) → (m : ℕ) → P m
strong P step m = strong_below P step (suc m) m (omega arith)

-- The events of a witness, each from the operands of its path.
module _ (q : Litmus) (w : Execution) (p i : ℕ) where
  module _ (l : i < length (path_at w p)) where
    runs : terms.instruction q w p i ≡ instruction_run q w p i
    runs = ap (λ (e : Event). e.instruction) (path_event_is q w p i l)

    pub event_place : (event q w p i).place ≡ get_or (path_at w p) i 0
    event_place = ap (λ (e : Event). e.place) (path_event_is q w p i l)

    pub event_next : (event q w p i).next ≡ next_place (terms.instruction q w p i) (event q w p i).place (operand (events q w p) i (first_operand (terms.instruction q w p i)))
    event_next =
        subst (λ c. (event q w p i).next ≡ next_place c (event q w p i).place (operand (events q w p) i (first_operand c))) (sym runs)
        (subst (λ x. (event q w p i).next ≡ next_place (instruction_run q w p i) x (operand (events q w p) i (first_operand (instruction_run q w p i)))) (sym event_place)
        (ap (λ (e : Event). e.next) (path_event_is q w p i l)))

    pub event_address : (event q w p i).address ≡ address_sum (terms.instruction q w p i) (operand (events q w p) i (first_operand (terms.instruction q w p i)))
    event_address =
        subst (λ c. (event q w p i).address ≡ address_sum c (operand (events q w p) i (first_operand c))) (sym runs)
        (ap (λ (e : Event). e.address) (path_event_is q w p i l))

    pub event_datum : (event q w p i).datum ≡ data_sum (terms.instruction q w p i) (operand (events q w p) i (second_operand (terms.instruction q w p i)))
    event_datum =
        subst (λ c. (event q w p i).datum ≡ data_sum c (operand (events q w p) i (second_operand c))) (sym runs)
        (ap (λ (e : Event). e.datum) (path_event_is q w p i l))

    event_value : (event q w p i).value ≡ cond (loads (terms.instruction q w p i)) (source_at q w p i).value
        (arithmetic_result (terms.instruction q w p i) (operand (events q w p) i (first_operand (terms.instruction q w p i))) (operand (events q w p) i (second_operand (terms.instruction q w p i))))
    event_value =
        subst (λ c. (event q w p i).value ≡ cond (loads c) (source_at q w p i).value (arithmetic_result c (operand (events q w p) i (first_operand c)) (operand (events q w p) i (second_operand c)))) (sym runs)
        (ap (λ (e : Event). e.value) (path_event_is q w p i l))

    pub event_loaded : loads (terms.instruction q w p i) ≡ true → (event q w p i).value ≡ (source_at q w p i).value
    event_loaded h = event_value ∙ cond-true (loads (terms.instruction q w p i)) _ _ h

    pub event_result : computes (terms.instruction q w p i) ≡ true → (event q w p i).value
        ≡ arithmetic_result (terms.instruction q w p i) (operand (events q w p) i (first_operand (terms.instruction q w p i))) (operand (events q w p) i (second_operand (terms.instruction q w p i)))
    event_result h = event_value ∙ cond-false (loads (terms.instruction q w p i)) _ _ (computes_quiet (terms.instruction q w p i) h).no_load

  -- The search for a register's writer looks at the instructions.
  writer_search : (r : ℕ) → i ≤ length (path_at w p) → writer (events q w p) r i ≡ nearest (λ m. writes (terms.instruction q w p m) r) i
  writer_search r l = nearest_same (passes (writes_register r) (events q w p)) (λ m. writes (terms.instruction q w p m) r) i
      (λ k b. passes_at (writes_register r) (events q w p) k no_event (omega (arith, length_events q w p)))

  -- An operand that nothing earlier writes is 0; otherwise it is the value of its nearest earlier writer.
  operand_unwritten : (r : ℕ) → i ≤ length (path_at w p) → NoneBelow (λ m. writes (terms.instruction q w p m) r) i → operand (events q w p) i (Some r) ≡ 0
  operand_unwritten r l h = ap (result_of (events q w p)) (writer_search r l ∙ nearest_is_none (λ m. writes (terms.instruction q w p m) r) i h)

  operand_written : (r j : ℕ) → i ≤ length (path_at w p) → Nearest (λ m. writes (terms.instruction q w p m) r) i j → operand (events q w p) i (Some r) ≡ (event q w p j).value
  operand_written r j l h = ap (result_of (events q w p)) (writer_search r l ∙ nearest_is (λ m. writes (terms.instruction q w p m) r) i j h)

module _ (q : Litmus) (w : Execution) (t : ℕ) (s : State) (R : Related q w t s) (p : ℕ) where
  -- A position of the path stands in the buffer.
  pub stands_in : (i : ℕ) → i < length (path_at w p) → i < length (buffer s p)
  stands_in i l = omega (arith, R.whole p)

  pub stands : (i : ℕ) → i < length (path_at w p) → Stands s p i
  stands i l = (stands_there s p i (stands_in i l), stands_in i l)

  -- The entries have the events' instructions.
  pub same_instruction : (i : ℕ) → instruction s p i ≡ terms.instruction q w p i
  same_instruction i = elim (cases_lt i (length (path_at w p))) [
    | inl l ↦ (R.invariant.entries p i (stands_in i l)).in_code.there
        ∙ ap (instruction_at (code_at q p)) (R.places p i l ∙ event_place q w p i l)
        ∙ sym (instruction_is (code_at q p) (path_at w p) (λ k. (source_at q w p k).value) (length (path_at w p)) i l)
    | inr l ↦ ap (λ (e : Entry). e.instruction) (get_or_past (buffer s p) i blank (omega (arith, R.whole p)))
        ∙ sym (ap (λ (e : Event). e.instruction) (past_is (code_at q p) (path_at w p) (λ k. (source_at q w p k).value) (length (path_at w p)) i l))
  ]

  -- A done entry that writes a register has the event's value.
  abbrev Right : ℕ → Type 0
  Right j = j < length (path_at w p) → (r : ℕ) → writes (instruction s p j) r ≡ true → (entry s p j).done ≡ true → (entry s p j).value ≡ (event q w p j).value

  -- A ready operand has the events' value, where the older results have it.
  operand_from : (i : ℕ) → i ≤ length (path_at w p) → ((j : ℕ) → j < i → Right j) → {o : Option ℕ} {x : ℕ} → Ready s p i o x → x ≡ operand (events q w p) i o
  operand_from i l below Ready.absent = refl
  operand_from i l below (Ready.unwritten r h) = sym (operand_unwritten q w p i r l (λ m b. ap (λ c. writes c r) (sym (same_instruction m)) ∙ h m b))
  operand_from i l below (Ready.from_writer r j b h none d) =
      below j b (omega arith) r h d
      ∙ sym (operand_written q w p i r j l (record {
        below = b;
        hit = ap (λ c. writes c r) (sym (same_instruction j)) ∙ h;
        between = λ m u v. ap (λ c. writes c r) (sym (same_instruction m)) ∙ none m u v;
      }))

  right_from : (j : ℕ) → ((k : ℕ) → k < j → Right k) → Right j
  right_from j below l r h d = elim (writer_kind (terms.instruction q w p j) r (ap (λ c. writes c r) (sym (same_instruction j)) ∙ h)) [
    | inr ld ↦ (R.sourced p j (l, ld) d).value ∙ sym (event_loaded q w p j l ld)
    | inl c ↦ (let f = ((R.invariant.entries p j (stands_in j l)).finished d).worked_out in
        let e = same_instruction j in
        let x : f.first ≡ operand (events q w p) j (first_operand (terms.instruction q w p j)) = operand_from j (omega arith) below f.first_ready ∙ ap (λ c. operand (events q w p) j (first_operand c)) e in
        let y : f.second ≡ operand (events q w p) j (second_operand (terms.instruction q w p j)) = operand_from j (omega arith) below f.second_ready ∙ ap (λ c. operand (events q w p) j (second_operand c)) e in
        f.value (ap computes e ∙ c)
        ∙ ap₂ (arithmetic_result (instruction s p j)) x y
        ∙ ap (λ c. arithmetic_result c (operand (events q w p) j (first_operand (terms.instruction q w p j))) (operand (events q w p) j (second_operand (terms.instruction q w p j)))) e
        ∙ sym (event_result q w p j l c))
  ]

  -- A done writer has the event's value.
  pub right : (j : ℕ) → Right j
  right = strong Right right_from

  -- A ready operand has the events' value.
  pub ready_value : (i : ℕ) → i ≤ length (path_at w p) → {o : Option ℕ} {x : ℕ} → Ready s p i o x → x ≡ operand (events q w p) i o
  ready_value i l = operand_from i l (λ j b. right j)

  module _ (i : ℕ) (l : i < length (path_at w p)) where
    -- The sum for the address, the data, and the next place, from ready operands.
    pub address_sum_is : (x : ℕ) → Ready s p i (first_operand (instruction s p i)) x → address_sum (instruction s p i) x ≡ (event q w p i).address
    address_sum_is x u =
        ap₂ address_sum (same_instruction i) (ready_value i (omega arith) u ∙ ap (λ c. operand (events q w p) i (first_operand c)) (same_instruction i)) ∙ sym (event_address q w p i l)

    pub data_sum_is : (y : ℕ) → Ready s p i (second_operand (instruction s p i)) y → data_sum (instruction s p i) y ≡ (event q w p i).datum
    data_sum_is y u =
        ap₂ data_sum (same_instruction i) (ready_value i (omega arith) u ∙ ap (λ c. operand (events q w p) i (second_operand c)) (same_instruction i)) ∙ sym (event_datum q w p i l)

    pub next_place_is : (x : ℕ) → Ready s p i (first_operand (instruction s p i)) x → next_place (instruction s p i) (entry s p i).place x ≡ (event q w p i).next
    next_place_is x u =
        ap (next_place (instruction s p i) (entry s p i).place) (ready_value i (omega arith) u ∙ ap (λ c. operand (events q w p) i (first_operand c)) (same_instruction i))
        ∙ ap₂ (λ c z. next_place c z (operand (events q w p) i (first_operand (terms.instruction q w p i)))) (same_instruction i) (R.places p i l)
        ∙ sym (event_next q w p i l)

    -- An available address is the event's, and so are available data.
    pub address_value : (a : ℕ) → (entry s p i).address ≡ Some a → a ≡ (event q w p i).address
    address_value a h = let k = (R.invariant.entries p i (stands_in i l)).address a h in k.sum ∙ address_sum_is k.operand k.ready

    pub data_value : (d : ℕ) → (entry s p i).datum ≡ Some d → d ≡ (event q w p i).datum
    data_value d h = let k = (R.invariant.entries p i (stands_in i l)).datum d h in k.sum ∙ data_sum_is k.operand k.ready
