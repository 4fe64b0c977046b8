-- The bytes so far, in front of those of the rest, are the bytes of the whole text.
use Rattle.std.proofs.Common.{◌≡◌, ◌++◌, length, vec_items}
use Rattle.std.specs.Option.{option_map}
use Rattle.hexadecimal.specs.Hex.{pairs_bytes}
use Rattle.hexadecimal.proofs.decode.pairs.Given as goal

abbrev pub invariant-loop-rest : goal.invariant-loop-rest
invariant-loop-rest l = option_map (λ bs. vec_items l.bytes ++ bs) (pairs_bytes l.rest) ≡ pairs_bytes l.initial.rest

abbrev pub decreases-loop-rest : goal.decreases-loop-rest
decreases-loop-rest l = length l.rest
