-- The events of a path, built left to right: how many there are, and each from those of the whole path before it.
use Rattle.std.proofs.Common.{◌≡◌, ℕ, zero, suc, ◌<◌, ◌≤◌, Bool, true, false, List, length, get_or, Some, None, Option, sym, refl, ap, ◌∙◌, subst, ap₂, inl, inr, arith}
use Rattle.std.proofs.lemmas.List.{get_or_append_left, get_or_push, length_push, get_or_past}
use Rattle.std.proofs.lemmas.Bool.{cases_eq, cases_lt, both_ways}
use Rattle.instructions.specs.Kinds.{first_operand, second_operand}
use Rattle.instructions.specs.declared.instruction.Instruction.{Instruction}
use Rattle.question.specs.Litmus.{Litmus, code_at, instruction_at}
use Rattle.search.specs.Search.{passes}
use Rattle.search.proofs.Searches.{nearest_same, nearest_some, passes_at}
use Rattle.witness.specs.Execution.{Execution}
use Rattle.events.specs.declared.event.Event.{Event}
use Rattle.events.specs.Events.{no_event, at, writes_register, writer, result_of, operand, event_of, next_event, events_upto}
use Rattle.events.specs.Sources.{path_at, source_at, events}

-- Two rows of events that agree below a position have the same writer before it.
writer_same : (es fs : List Event) (r i : ℕ) → i ≤ length es → i ≤ length fs → ((k : ℕ) → k < i → at es k ≡ at fs k) → writer es r i ≡ writer fs r i
writer_same es fs r i le lf h =
    nearest_same (passes (writes_register r) es) (passes (writes_register r) fs) i (λ k l.
    passes_at (writes_register r) es k no_event (omega arith)
    ∙ ap (writes_register r) (h k l)
    ∙ sym (passes_at (writes_register r) fs k no_event (omega arith)))

-- They have the same result of that writer.
result_same : (es fs : List Event) (o : Option ℕ) → ((k : ℕ) → o ≡ Some k → at es k ≡ at fs k) → result_of es o ≡ result_of fs o
result_same es fs None h = refl
result_same es fs (Some k) h = ap (λ (e : Event). e.value) (h k refl)

-- They have the same value of an operand at that position.
pub operand_same : (es fs : List Event) (i : ℕ) (o : Option ℕ) → i ≤ length es → i ≤ length fs → ((k : ℕ) → k < i → at es k ≡ at fs k) → operand es i o ≡ operand fs i o
operand_same es fs i None le lf h = refl
operand_same es fs i (Some r) le lf h =
    result_same es fs (writer es r i) (λ k e. h k (nearest_some (passes (writes_register r) es) i k e).below)
    ∙ ap (result_of fs) (writer_same es fs r i le lf h)

module _ (code : List Instruction) (places : List ℕ) (stated : ℕ → ℕ) where
  abbrev built : ℕ → List Event
  built n = events_upto code places stated n

  -- There are as many events as places.
  pub length_built : (n : ℕ) → length (built n) ≡ n
  unfolding events_upto
  length_built zero = refl
  length_built (suc n) = length_push (built n) _ ∙ omega (arith, length_built n)

  -- An event comes from those before it, and stays.
  pub built_at : (n i : ℕ) → i < n → at (built n) i ≡ next_event code (built i) (get_or places i 0) (stated i)
  unfolding events_upto
  built_at zero i l = absurd (omega arith)
  built_at (suc n) i l = elim (cases_eq i n) [
    | inl e ↦ subst (λ z. at (built (suc n)) z ≡ next_event code (built z) (get_or places z 0) (stated z)) (sym e) (get_or_push (built n) _ no_event n (length_built n))
    | inr e ↦ get_or_append_left (built n) _ no_event i (omega (arith, length_built n)) ∙ built_at n i (omega arith)
  ]

  -- What is built up to a position agrees with the whole below it.
  pub built_same : (n i k : ℕ) → i ≤ n → k < i → at (built i) k ≡ at (built n) k
  built_same n i k l h = built_at i k h ∙ sym (built_at n k (omega arith))

  operand_built : (n i : ℕ) (o : Option ℕ) → i < n → operand (built i) (length (built i)) o ≡ operand (built n) i o
  operand_built n i o l =
      ap (λ z. operand (built i) z o) (length_built i)
      ∙ operand_same (built i) (built n) i o (omega (arith, length_built i)) (omega (arith, length_built n)) (λ k h. built_same n i k (omega arith) h)

  -- The event at a position, from the operands that the whole path gives it.
  pub event_is : (n i : ℕ) → i < n →
      at (built n) i ≡ event_of (instruction_at code (get_or places i 0)) (get_or places i 0) (stated i)
      (operand (built n) i (first_operand (instruction_at code (get_or places i 0))))
      (operand (built n) i (second_operand (instruction_at code (get_or places i 0))))
  event_is n i l =
      let c = instruction_at code (get_or places i 0) in
      built_at n i l
      ∙ ap₂ (λ x y. event_of c (get_or places i 0) (stated i) x y) (operand_built n i (first_operand c) l) (operand_built n i (second_operand c) l)

  -- Its place and its instruction.
  pub place_is : (n i : ℕ) → i < n → (at (built n) i).place ≡ get_or places i 0
  place_is n i l = ap (λ (e : Event). e.place) (event_is n i l)

  pub instruction_is : (n i : ℕ) → i < n → (at (built n) i).instruction ≡ instruction_at code (get_or places i 0)
  instruction_is n i l = ap (λ (e : Event). e.instruction) (event_is n i l)

  -- Past the end stands no event.
  pub past_is : (n i : ℕ) → n ≤ i → at (built n) i ≡ no_event
  past_is n i l = get_or_past (built n) i no_event (omega (arith, length_built n))

-- A processor has as many events as places on its path.
pub length_events : (q : Litmus) (w : Execution) (p : ℕ) → length (events q w p) ≡ length (path_at w p)
length_events q w p = length_built (code_at q p) (path_at w p) (λ i. (source_at q w p i).value) (length (path_at w p))

module _ (q : Litmus) (w : Execution) (p i : ℕ) where
  -- The instruction of processor p at the place that its path has at i.
  abbrev pub instruction_run : Instruction
  instruction_run = instruction_at (code_at q p) (get_or (path_at w p) i 0)

  -- The event at a position of a processor's path, from the operands that the path gives it.
  pub path_event_is : i < length (path_at w p) →
      at (events q w p) i ≡ event_of instruction_run (get_or (path_at w p) i 0) (source_at q w p i).value
      (operand (events q w p) i (first_operand instruction_run)) (operand (events q w p) i (second_operand instruction_run))
  path_event_is l = event_is (code_at q p) (path_at w p) (λ k. (source_at q w p k).value) (length (path_at w p)) i l

  -- What no absent event has is had only on the path: to load, to store, to be an access, a branch or a fence.
  pub has_on_path : (has : Instruction → Bool) → has no_event.instruction ≡ false → has (at (events q w p) i).instruction ≡ true → i < length (path_at w p)
  has_on_path has off h = elim (cases_lt i (length (path_at w p))) [
    | inl l ↦ l
    | inr l ↦ absurd (both_ways (has (at (events q w p) i).instruction)
        (ap (λ (e : Event). has e.instruction) (past_is (code_at q p) (path_at w p) (λ k. (source_at q w p k).value) (length (path_at w p)) i l) ∙ off) h)
  ]
