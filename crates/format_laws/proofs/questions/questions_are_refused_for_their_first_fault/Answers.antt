use Rattle.fields.proofs.Relations.{rows_are_read_as_they_mean}
use Rattle.question.specs.Read.{question_format, no_fields}
use Rattle.format_laws.proofs.Cells.{cell_contents_refused_for_an_address}
use Rattle.format_laws.proofs.CodeFaults.{code_refused_for_its_first_fault}
use Rattle.format_laws.proofs.InstructionFaults.{instruction_refused_for_its_first_fault}
use Rattle.format_laws.proofs.questions.questions_are_refused_for_their_first_fault.Goals as goal

pub returns : goal.returns
returns c = record {
  rows = rows_are_read_as_they_mean question_format no_fields;
  cells = cell_contents_refused_for_an_address;
  code = code_refused_for_its_first_fault;
  instructions = instruction_refused_for_its_first_fault;
}
