-- The worked questions and witnesses, by computation.
use Rattle.std.proofs.Common.{ℕ, List, [], ◌∷◌, refl}
use Rattle.fields.specs.Rows.{read_within, read_row}
use Rattle.question.specs.Cells.{cells_from}
use Rattle.question.specs.Codes.{code_from}
use Rattle.question.specs.Instructions.{instruction_of}
use Rattle.witness.specs.Records.{sources_from, accesses_from}
use Rattle.format_laws.specs.Worked.{Row, ComesOut, EachComesOut, questions, question_found, witnesses, witness_found}

pub worked_questions : ComesOut question_found questions
unfolding read_row read_within cells_from code_from instruction_of
worked_questions = refl

pub worked_witnesses : ComesOut witness_found witnesses
unfolding read_row read_within sources_from accesses_from
worked_witnesses = refl

-- Rows that come out together come out one by one.
pub each_row : (found : Row → ℕ) (rows : List Row) → ComesOut found rows → EachComesOut found rows
each_row found [] h = tt
each_row found (r ∷ rows) h = (cc, each_row found rows cc)
