use Rattle.std.proofs.Common.{◌≡◌, take}
use Rattle.std.specs.List.{flat_map}
use Rattle.bounded.specs.Items.{items}
use Rattle.fields.specs.Fields.{field_bytes}
use Rattle.witness.specs.Bytes.{path_tag}
use Rattle.witness.proofs.witness.Witness.bytes.Given as goal

abbrev pub invariant-loop-path : goal.invariant-loop-path
invariant-loop-path l = items l.out ≡ take 466 (flat_map (λ p. field_bytes path_tag (items p)) (take l.path-index (items l.self.paths)))
