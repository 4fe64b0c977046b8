use Rattle.std.proofs.Common.{◌≡◌, take}
use Rattle.std.specs.List.{flat_map}
use Rattle.bounded.specs.Items.{items}
use Rattle.witness.proofs.write.write_records.Given as goal

abbrev pub invariant-loop-record : goal.invariant-loop-record
invariant-loop-record g l = items l.out ≡ take g.row.M (flat_map g.R.Record.record_bytes (take l.record-index l.records))
