-- What the types of the code stand for.
use Rattle.std.specs.Prelude.{ℕ, ◌&&◌, List, [], map, length, is_none, unwrap_or, Ok, Err, Result, ◌==◌}
use Rattle.bounded.specs.Items.{items}
use Rattle.fields.specs.declared.refusal.Refusal.{Refusal}
use Rattle.fields.specs.Fields.{Cut}
use Rattle.question.specs.declared.code.Code.{Code}
use Rattle.question.specs.declared.draft.Draft.{Draft as Held}
use Rattle.instructions.specs.declared.instruction.Instruction.{Instruction}
use Rattle.question.specs.declared.question.Question.{Question}
use Rattle.question.specs.declared.field.Field.{Field}
use Rattle.question.specs.declared.field.Field.TheVariants.{Cells, Processor}
use Rattle.question.specs.Cells.{zeros}
use Rattle.question.specs.Litmus.{Litmus}
use Rattle.question.specs.Read.{Draft, cell_tag, processor_tag}

-- The instructions of a processor's code.
abbrev pub instructions_of : Code → List Instruction
instructions_of c = items c.instructions

-- The litmus test that a question is.
abbrev pub litmus_of : Question → Litmus
litmus_of q = record { start = q.start; code = map instructions_of (items q.processors) }

-- What a draft knows of the fields so far: there were none where it has neither start values nor a processor.
abbrev pub draft_of : Held → Draft
draft_of d = record {
  empty = is_none d.start && length (items d.processors) == 0;
  start = unwrap_or d.start zeros;
  code = map instructions_of (items d.processors);
}

-- A cell field with these contents, and nothing behind it.
abbrev pub cell_cut : List ℕ → Cut
cell_cut contents = record { tag = cell_tag; contents = contents; rest = [] }

-- A processor field with these contents, and nothing behind it.
abbrev pub processor_cut : List ℕ → Cut
processor_cut contents = record { tag = processor_tag; contents = contents; rest = [] }

-- A field as its tag and contents, with the bytes behind it.
abbrev pub cut_of : Field → List ℕ → Cut
cut_of (Cells contents) rest = record { tag = cell_tag; contents = contents.now; rest = rest }
cut_of (Processor contents) rest = record { tag = processor_tag; contents = contents.now; rest = rest }

-- A field that was told by its tag, with the bytes behind it.
abbrev pub field_known : Result Field Refusal → List ℕ → Result Cut Refusal
field_known (Ok f) rest = Ok (cut_of f rest)
field_known (Err e) rest = Err e
