-- The steps so far have the bytes of the chunks so far.
use Rattle.std.proofs.Common.{◌≡◌, map, take, vec_items}
use Rattle.machine.specs.Bytes.{step_bytes}
use Rattle.runs.proofs.step_bytes.steps_of.Given as goal

abbrev pub invariant-loop-chunk : goal.invariant-loop-chunk
invariant-loop-chunk l = map step_bytes (vec_items l.steps) ≡ take l.chunk-index l.chunks
