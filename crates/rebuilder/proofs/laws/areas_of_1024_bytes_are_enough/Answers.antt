use Rattle.rebuilder.proofs.Enough.{areas_of_1024_bytes_are_enough}
use Rattle.rebuilder.proofs.laws.areas_of_1024_bytes_are_enough.Goals as goal

pub returns : goal.returns
returns c = areas_of_1024_bytes_are_enough
