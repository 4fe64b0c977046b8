use Rattle.format_laws.proofs.WitnessesMean.{witnesses_are_read_as_they_mean}
use Rattle.format_laws.proofs.witnesses.witnesses_are_read_as_they_mean.Goals as goal

pub returns : goal.returns
returns c = witnesses_are_read_as_they_mean
