use Rattle.format_laws.proofs.Meanings.{questions_are_read_as_they_mean}
use Rattle.format_laws.proofs.questions.questions_are_read_as_they_mean.Goals as goal

pub returns : goal.returns
returns c = questions_are_read_as_they_mean
