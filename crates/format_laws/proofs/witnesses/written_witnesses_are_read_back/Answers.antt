use Rattle.witness.proofs.Within.{witnesses_have_at_most_466_bytes}
use Rattle.format_laws.proofs.WitnessesMean.{written_witnesses_are_read_back}
use Rattle.format_laws.proofs.witnesses.written_witnesses_are_read_back.Goals as goal

pub returns : goal.returns
returns c = record { back = written_witnesses_are_read_back; few = witnesses_have_at_most_466_bytes }
