-- What a closed run answers.
use Rattle.std.specs.Prelude.{ℕ, Bool, true, cond, ◌&&◌, List, [], ◌∷◌, map, length, Some, None, Ok, Err, Option, Result, ◌==◌, nat_lt, slice_index, slice_index_or}
use Rattle.std.specs.List.{range_with_len, flat_map}
use Rattle.fields.specs.Areas.{area_answer, area_after}
use Rattle.fields.specs.declared.refusal.Refusal.{Refusal}
use Rattle.fields.specs.declared.refusal.Refusal.TheVariants.{RunUnfinished, Absent}
use Rattle.memory.specs.Cells.{cell_at}
use Rattle.memory.specs.declared.cell.Cell.{Cell}
use Rattle.memory.specs.declared.cell.Mark.{Mark}
use Rattle.memory.specs.declared.cell.Mark.TheVariants as mark
use Rattle.instructions.specs.Kinds.{loads}
use Rattle.question.specs.Litmus.{Litmus}
use Rattle.instructions.specs.declared.instruction.Instruction.{Instruction}
use Rattle.rules.specs.Entries.{at}
use Rattle.rules.specs.Ready.{writer}
use Rattle.rules.specs.declared.entry.Entry.{Entry}
use Rattle.witness.specs.Bytes.{bytes_of}
use Rattle.witness.specs.Execution.{Execution}
use Rattle.witness.specs.declared.record.Source.{Source}
use Rattle.machine.specs.State.{Core, State}

-- Every entry is done.
abbrev pub all_done : List Entry → Bool
all_done [] = true
all_done (e ∷ es) = e.done && all_done es

-- A processor's counter is at the end of its code, and every entry is done.
abbrev pub core_finished : List Instruction → Core → Bool
core_finished code c = c.counter == length code && all_done c.entries

-- Every processor is finished.
abbrev pub all_finished : List (List Instruction) → List Core → Bool
all_finished [] cs = true
all_finished (code ∷ codes) [] = true
all_finished (code ∷ codes) (c ∷ cs) = core_finished code c && all_finished codes cs

-- The result of a writer, or 0.
abbrev pub value_at : List Entry → Option ℕ → ℕ
value_at es None = 0
value_at es (Some j) = (at es j).value

-- A register after the run: the result of its youngest writer in the buffer, or 0.
abbrev pub register_value : List Entry → ℕ → ℕ
register_value es r = value_at es (writer es r (length es))

-- The eight registers of a processor.
abbrev pub registers_of : Core → List ℕ
registers_of c = map (register_value c.entries) (range_with_len 0 8)

-- A value with where it came from, as a source record; the start is FF FF.
abbrev pub source_record : Mark → ℕ → Source
source_record mark.Start v = record { processor = 255; position = 255; value = v }
source_record (mark.Store p i) v = record { processor = p; position = i; value = v }

-- The source record of an entry, if it is a load.
abbrev pub entry_sources : Entry → List Source
entry_sources e = cond (loads e.instruction) (source_record e.mark e.value ∷ []) []

-- The source records of a processor's loads, oldest first.
abbrev pub core_sources : Core → List Source
core_sources c = flat_map entry_sources c.entries

-- The places that a processor ran.
abbrev pub core_path : Core → List ℕ
core_path c = map (λ e. e.place) c.entries

-- The witness of a state: the places run, the loads' sources, the memory order.
abbrev pub witness_of_state : State → Execution
witness_of_state s = record { paths = map core_path s.cores; sources = flat_map core_sources s.cores; order = s.order }

-- What a closed run holds.
pub record Closed : Type 0 where
  pub finished : Bool
  pub registers : List (List ℕ)
  pub execution : Execution
  pub cells : List Cell

-- The run of a question closed in a state.
abbrev pub closed : Litmus → State → Closed
closed q s = record {
  finished = all_finished q.code s.cores;
  registers = map registers_of s.cores;
  execution = witness_of_state s;
  cells = s.cells;
}

-- A register of a closed run: refused if the run is unfinished, then if the processor or the register is absent.
abbrev pub register_answer : Closed → ℕ → ℕ → Result ℕ Refusal
register_answer c p r =
    cond c.finished (cond (nat_lt p (length c.registers) && nat_lt r 8) (Ok (slice_index (slice_index_or c.registers p []) r)) (Err Absent)) (Err RunUnfinished)

-- A cell of a closed run: refused if the run is unfinished, then if the cell is absent.
abbrev pub cell_answer : Closed → ℕ → Result Cell Refusal
cell_answer c a = cond c.finished (cond (nat_lt a 16) (Ok (cell_at c.cells a)) (Err Absent)) (Err RunUnfinished)

-- The witness of a closed run, written to an area: refused if the run is unfinished, then if the area is too short.
abbrev pub witness_answer : Closed → List ℕ → Result ℕ Refusal
witness_answer c area = cond c.finished (area_answer (bytes_of c.execution) area) (Err RunUnfinished)

-- The area afterwards.
abbrev pub witness_area : Closed → List ℕ → List ℕ
witness_area c area = cond c.finished (area_after (bytes_of c.execution) area) area
