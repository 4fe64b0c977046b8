use Rattle.fields.proofs.Relations.{rows_are_read_as_they_mean}
use Rattle.witness.specs.Read.{no_fields, witness_format}
use Rattle.format_laws.proofs.witnesses.witnesses_are_refused_for_their_first_fault.Goals as goal

pub returns : goal.returns
returns c = rows_are_read_as_they_mean witness_format no_fields
