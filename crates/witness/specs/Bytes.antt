-- The bytes of a witness.
use Rattle.std.specs.Prelude.{ℕ, List, ◌++◌}
use Rattle.std.specs.List.{flat_map}
use Rattle.fields.specs.Fields.{field_bytes}
use Rattle.witness.specs.Execution.{Execution}
use Rattle.witness.specs.Records.{source_bytes, access_bytes}

-- The tag of a path field, 45 in hexadecimal.
abbrev pub path_tag : ℕ
path_tag = 69

-- The tag of the source field, 52 in hexadecimal.
abbrev pub source_tag : ℕ
source_tag = 82

-- The tag of the order field, 4D in hexadecimal.
abbrev pub order_tag : ℕ
order_tag = 77

-- A field for each path, then the source field, then the order field.
unfoldable pub bytes_of : Execution → List ℕ
bytes_of w =
    flat_map (field_bytes path_tag) w.paths
    ++ (field_bytes source_tag (flat_map source_bytes w.sources) ++ field_bytes order_tag (flat_map access_bytes w.order))
