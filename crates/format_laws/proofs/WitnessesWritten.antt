-- The bytes of an execution within the bounds are a well-formed witness that means it.
use Rattle.std.proofs.Common.{◌≡◌, ℕ, ◌+◌, ◌%◌, ◌≤◌, true, List, [], ◌∷◌, ◌++◌, length, Some, None, Ok, refl, arith}
use Rattle.std.specs.List.{flat_map, AllByRecursion}
use Rattle.std.proofs.lemmas.List.{append_assoc, append-nil, length-append}
use Rattle.std.proofs.lemmas.Bool.{lt-ltb, le-leb, eq-eqb}
use Rattle.fields.specs.Fields.{field_bytes}
use Rattle.fields.specs.Rows.{Reads}
use Rattle.witness.specs.Bytes.{path_tag, source_tag, order_tag, bytes_of}
use Rattle.witness.specs.Execution.{Execution, Within}
use Rattle.witness.specs.Read.{Draft, no_fields, witness_fits, witness_taken, witness_format}
use Rattle.witness.specs.Records.{source_bytes, access_bytes}
use Rattle.witness.proofs.Within.{length_sources, length_accesses}
use Rattle.format_laws.proofs.WitnessesRecords.{sources_back, accesses_back}

-- A draft with these paths and no other field.
abbrev pub paths_so_far : List (List ℕ) → Draft
paths_so_far ps = record { paths = ps; sources = None; order = None }

-- Path fields come first.
paths_read : (w : Execution) (rest : List ℕ) (qs ps : List (List ℕ)) → AllByRecursion (λ p. length p ≤ 16) ps → length qs + length ps ≤ 4 →
    Reads witness_format (paths_so_far (qs ++ ps)) rest w → Reads witness_format (paths_so_far qs) (flat_map (field_bytes path_tag) ps ++ rest) w
paths_read w rest qs [] h l r = rw append-nil at r
paths_read w rest qs (p ∷ ps) h l r =
    let s : length p ≤ 16 = h.0 in
    let e = append_assoc qs (p ∷ []) ps in
    let n = length-append qs (p ∷ []) in
    rw (append_assoc (field_bytes path_tag p) (flat_map (field_bytes path_tag) ps) rest)
    (Reads.field_first path_tag p (flat_map (field_bytes path_tag) ps ++ rest) (paths_so_far (qs ++ p ∷ [])) (omega arith)
    (lt-ltb (length qs) 4 (omega arith)) (le-leb (length p) 16 s) refl
    (paths_read w rest (qs ++ p ∷ []) ps h.1 (omega arith) (rw e r)))

-- The order field comes last.
order_read : (w : Execution) → length w.order ≤ 64 →
    Reads witness_format (record { paths = w.paths; sources = Some w.sources; order = None }) (field_bytes order_tag (flat_map access_bytes w.order)) w
order_read w few =
    let o = flat_map access_bytes w.order in
    let n = length_accesses w.order in
    let fits : witness_fits order_tag (length o) ≡ true = rw (le-leb (length o) 128 (omega arith)) (eq-eqb (length o % 2) 0 (omega arith)) in
    let t : Draft = record { paths = w.paths; sources = Some w.sources; order = None } in
    let u : Draft = record { paths = w.paths; sources = Some w.sources; order = Some w.order } in
    let taken : witness_taken t order_tag o ≡ Ok u = rw (accesses_back w.order) in
    rw (← append-nil (field_bytes order_tag o)) (Reads.field_first {s = t} order_tag o [] u (omega arith) refl fits taken (Reads.at_end refl))

-- The source field comes before it.
records_read : (w : Execution) → Within w →
    Reads witness_format (paths_so_far w.paths) (field_bytes source_tag (flat_map source_bytes w.sources) ++ field_bytes order_tag (flat_map access_bytes w.order)) w
records_read w h =
    let s = flat_map source_bytes w.sources in
    let n = length_sources w.sources in
    let few = h.few_sources in
    let fits : witness_fits source_tag (length s) ≡ true = rw (le-leb (length s) 256 (omega arith)) (eq-eqb (length s % 4) 0 (omega arith)) in
    let t : Draft = record { paths = w.paths; sources = Some w.sources; order = None } in
    Reads.field_first source_tag s (field_bytes order_tag (flat_map access_bytes w.order)) t (omega arith)
    (lt-ltb 0 (length w.paths) h.some_path) fits (rw (sources_back w.sources)) (order_read w h.few_accesses)

-- The bytes of an execution within the bounds mean it.
pub written_means : (w : Execution) → Within w → Reads witness_format no_fields (bytes_of w) w
unfolding bytes_of
written_means w h =
    let few = h.few_paths in
    paths_read w (field_bytes source_tag (flat_map source_bytes w.sources) ++ field_bytes order_tag (flat_map access_bytes w.order))
    [] w.paths h.short_paths (omega arith) (records_read w h)
