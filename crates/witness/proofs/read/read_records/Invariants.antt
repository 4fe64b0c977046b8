use Rattle.std.proofs.Common.{◌≡◌, map, take}
use Rattle.bounded.specs.Items.{items}
use Rattle.witness.proofs.read.read_records.Given as goal

abbrev pub invariant-loop-bytes : goal.invariant-loop-bytes
invariant-loop-bytes g l = items l.records ≡ map g.R.Record.record_of (take l.bytes-index l.chunks)
