use Rattle.std.proofs.Common.{◌≡◌, ◌+◌, map, get_or}
use Rattle.std.specs.List.{range_with_len}
use Rattle.bounded.specs.Items.{items}
use Rattle.events.specs.Sources.{loads_upto, no_source}
use Rattle.events.proofs.evaluate.path_sources.Given as goal

-- The number of the next record, and the records so far.
abbrev pub invariant-loop-place : goal.invariant-loop-place
invariant-loop-place l =
    (l.number ≡ l.first + loads_upto l.code l.places l.place-index)
    × (items l.sources ≡ map (λ i. get_or l.records (l.first + loads_upto l.code l.places i) no_source) (range_with_len 0 l.place-index))
