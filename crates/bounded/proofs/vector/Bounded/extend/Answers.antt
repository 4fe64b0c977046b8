use Rattle.std.proofs.Common.{arith}
use Rattle.std.proofs.lemmas.Grind.{common_steps}
use Rattle.std.proofs.lemmas.Slice.{take-put_mid}
use Rattle.bounded.proofs.Takes.{take_append_room}
use Rattle.bounded.proofs.vector.Bounded.extend.Goals as goal

pub returns : goal.returns
returns g c = grind (arith, common_steps, take-put_mid, take_append_room)
