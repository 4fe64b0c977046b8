-- The events of a path: what each instruction that was run comes to, from those before it and the values of the loads.
use Rattle.std.specs.Prelude.{ℕ, zero, suc, Bool, cond, List, [], ◌∷◌, ◌++◌, length, Some, None, Option, slice_index, slice_index_or}
use Rattle.instructions.specs.Effects.{arithmetic_result, address_sum, data_sum, next_place}
use Rattle.instructions.specs.Kinds.{loads, first_operand, second_operand, writes}
use Rattle.instructions.specs.declared.instruction.Instruction.{Instruction}
use Rattle.instructions.specs.declared.instruction.Instruction.TheVariants.{Add}
use Rattle.question.specs.Litmus.{instruction_at}
use Rattle.search.specs.Search.{nearest, passes}
use Rattle.events.specs.declared.event.Event.{Event}

-- What stands past the end of a path, where nobody looks.
abbrev pub no_event : Event
no_event = record { place = 0; instruction = Add 0 None None 0; next = 0; value = 0; address = 0; datum = 0 }

-- The event at a position.
abbrev pub at : List Event → ℕ → Event
at es i = slice_index_or es i no_event

-- The event writes the register.
abbrev pub writes_register : ℕ → Event → Bool
writes_register r e = writes e.instruction r

-- The nearest event before position i that writes the register.
abbrev pub writer : List Event → ℕ → ℕ → Option ℕ
writer es r i = nearest (passes (writes_register r) es) i

-- The result of a writer; 0 where there is none.
abbrev pub result_of : List Event → Option ℕ → ℕ
result_of es None = 0
result_of es (Some j) = (at es j).value

-- The value of an operand of the event at position i: the result of its nearest earlier writer; an absent operand is 0.
abbrev pub operand : List Event → ℕ → Option ℕ → ℕ
operand es i None = 0
operand es i (Some r) = result_of es (writer es r i)

-- What an instruction at a place comes to, from its operands x and y; a load takes the stated value.
abbrev pub event_of : Instruction → ℕ → ℕ → ℕ → ℕ → Event
event_of i place stated x y = record {
  place = place;
  instruction = i;
  next = next_place i place x;
  value = cond (loads i) stated (arithmetic_result i x y);
  address = address_sum i x;
  datum = data_sum i y;
}

-- The event that comes next after those of es, at a place of the code.
abbrev pub next_event : List Instruction → List Event → ℕ → ℕ → Event
next_event code es place stated =
    let i = instruction_at code place in
    event_of i place stated (operand es (length es) (first_operand i)) (operand es (length es) (second_operand i))

-- The events of the first n places of a path, each from those before it; the load at position i takes the value stated i.
unfoldable pub events_upto : List Instruction → List ℕ → (ℕ → ℕ) → ℕ → List Event
events_upto code places stated zero = []
events_upto code places stated (suc n) =
    let es = events_upto code places stated n in
    es ++ next_event code es (slice_index places n) (stated n) ∷ []
