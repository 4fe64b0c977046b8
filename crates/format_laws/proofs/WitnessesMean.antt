-- Witnesses are read as they mean, and written witnesses are read back.
use Rattle.std.proofs.Common.{ap, ◌∙◌}
use Rattle.fields.specs.Rows.{read_row}
use Rattle.fields.proofs.Relations.{reads_read, rows_are_read_as_they_mean}
use Rattle.witness.specs.Means.{WitnessesAreReadAsTheyMean, WrittenWitnessesAreReadBack}
use Rattle.witness.specs.Bytes.{bytes_of}
use Rattle.witness.specs.Read.{no_fields, witness_format}
use Rattle.format_laws.proofs.WitnessesRead.{read_means}
use Rattle.format_laws.proofs.WitnessesWritten.{written_means}

pub written_witnesses_are_read_back : WrittenWitnessesAreReadBack
written_witnesses_are_read_back w h = reads_read witness_format no_fields (bytes_of w) w (written_means w h)

pub witnesses_are_read_as_they_mean : WitnessesAreReadAsTheyMean
witnesses_are_read_as_they_mean b bytes w = (
  λ h. read_means b bytes w (((rows_are_read_as_they_mean witness_format no_fields b bytes).0 w).0 h),
  λ p. ap (read_row witness_format no_fields) p.1 ∙ written_witnesses_are_read_back w p.0,
)
