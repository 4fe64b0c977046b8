use Rattle.format_laws.specs.Worked.{questions, question_found, witnesses, witness_found}
use Rattle.format_laws.proofs.Computed.{worked_questions, worked_witnesses, each_row}
use Rattle.format_laws.proofs.worked.worked_formats_come_out.Goals as goal

pub returns : goal.returns
returns c = record {
  questions = worked_questions;
  each_question = each_row question_found questions worked_questions;
  witnesses = worked_witnesses;
  each_witness = each_row witness_found witnesses worked_witnesses;
}
