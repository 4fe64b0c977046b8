-- Every witness is within the bounds, and how many bytes it has.
use Rattle.std.proofs.Common.{◌≡◌, ℕ, ◌*◌, ◌≤◌, List, [], ◌∷◌, ◌++◌, length, refl, arith}
use Rattle.std.specs.List.{flat_map, AllByRecursion}
use Rattle.std.proofs.ByRecursion.{All-map}
use Rattle.std.proofs.lemmas.List.{length-append, length-map}
use Rattle.bounded.specs.declared.vector.Bounded.{Bounded}
use Rattle.bounded.specs.Items.{items}
use Rattle.bounded.proofs.Fits.{items_fit}
use Rattle.fields.specs.Fields.{field_bytes}
use Rattle.witness.specs.declared.record.Access.{Access}
use Rattle.witness.specs.declared.record.Source.{Source}
use Rattle.witness.specs.declared.witness.Witness.{Witness}
use Rattle.witness.specs.Bytes.{path_tag, source_tag, order_tag, bytes_of}
use Rattle.witness.specs.Execution.{Within}
use Rattle.witness.specs.Means.{WitnessesHaveAtMost466Bytes}
use Rattle.witness.specs.Records.{source_bytes, access_bytes}
use Rattle.witness.specs.Views.{execution_of}
use Rattle.witness.proofs.Joined.{length_joined}

-- Paths of at most sixteen places.
all_short : (xs : List (Bounded ℕ 16)) → AllByRecursion (λ p. length (items p) ≤ 16) xs
all_short [] = tt
all_short (p ∷ xs) = (items_fit p, all_short xs)

-- A witness states an execution within the bounds.
pub within : (w : Witness) → Within (execution_of w)
within w =
    let e = length-map (items w.paths) items in
    record {
      some_path = rw e w.some;
      few_paths = rw e (items_fit w.paths);
      short_paths = All-map (λ p. length p ≤ 16) items (items w.paths) (all_short (items w.paths));
      few_sources = items_fit w.sources;
      few_accesses = items_fit w.order;
    }

-- Four bytes a source.
pub length_sources : (xs : List Source) → length (flat_map source_bytes xs) ≡ 4 * length xs
length_sources = length_joined source_bytes 4 (λ x. refl)

-- Two bytes an access.
pub length_accesses : (xs : List Access) → length (flat_map access_bytes xs) ≡ 2 * length xs
length_accesses = length_joined access_bytes 2 (λ x. refl)

-- At most nineteen bytes a path.
length_paths : (ps : List (List ℕ)) → AllByRecursion (λ p. length p ≤ 16) ps → length (flat_map (field_bytes path_tag) ps) ≤ 19 * length ps
length_paths [] h = omega arith
length_paths (p ∷ ps) h =
    let l = length-append (field_bytes path_tag p) (flat_map (field_bytes path_tag) ps) in
    let k = length_paths ps h.1 in
    let s : length p ≤ 16 = h.0 in
    omega arith

-- Four paths of nineteen bytes, a source field of 259, an order field of 131.
pub witnesses_have_at_most_466_bytes : WitnessesHaveAtMost466Bytes
unfolding bytes_of
witnesses_have_at_most_466_bytes w h =
    let source_field = field_bytes source_tag (flat_map source_bytes w.sources) in
    let order_field = field_bytes order_tag (flat_map access_bytes w.order) in
    let p = length_paths w.paths h.short_paths in
    let a = length-append (flat_map (field_bytes path_tag) w.paths) (source_field ++ order_field) in
    let b = length-append source_field order_field in
    let s = length_sources w.sources in
    let o = length_accesses w.order in
    omega (arith, h.few_paths, h.few_sources, h.few_accesses)
