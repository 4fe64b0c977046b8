-- The fields of a witness, put one after the other into a vector of 466 bytes, are its bytes.
use Rattle.std.proofs.Common.{◌≡◌, ℕ, ◌≤◌, List, ◌++◌, length, take, ap, ◌∙◌, arith}
use Rattle.std.specs.List.{flat_map}
use Rattle.std.proofs.lemmas.List.{take_all}
use Rattle.bounded.specs.Items.{items}
use Rattle.bounded.proofs.Takes.{take_append_take, take_append_both}
use Rattle.fields.specs.Fields.{field_bytes}
use Rattle.witness.specs.declared.witness.Witness.{Witness}
use Rattle.witness.specs.Bytes.{path_tag, source_tag, order_tag, bytes_of}
use Rattle.witness.specs.Records.{source_bytes, access_bytes}
use Rattle.witness.specs.Views.{execution_of}
use Rattle.witness.proofs.Joined.{joined_map}
use Rattle.witness.proofs.Within.{within, length_sources, length_accesses, witnesses_have_at_most_466_bytes}

-- Three parts that are put into a vector of n elements one after the other.
three_parts : (n : ℕ) (p s o : List ℕ) → length (p ++ (s ++ o)) ≤ n → take n (take n (take n p ++ s) ++ o) ≡ p ++ (s ++ o)
three_parts n p s o h =
    ap (λ t. take n (t ++ o)) (take_append_take n p s) ∙ take_append_both n p s o ∙ take_all n (p ++ (s ++ o)) h

module _ (w : Witness) where
  -- The fields of the paths.
  abbrev pub path_fields : List ℕ
  path_fields = flat_map (λ p. field_bytes path_tag (items p)) (items w.paths)

  -- The contents of the source field.
  abbrev pub source_part : List ℕ
  source_part = flat_map source_bytes (items w.sources)

  -- The contents of the order field.
  abbrev pub order_part : List ℕ
  order_part = flat_map access_bytes (items w.order)

  -- Together they are the bytes of the witness.
  fields_joined : path_fields ++ (field_bytes source_tag source_part ++ field_bytes order_tag order_part) ≡ bytes_of (execution_of w)
  unfolding bytes_of
  fields_joined = rw (joined_map (field_bytes path_tag) items (items w.paths))

  -- What the vector holds after the paths, after the source field and after the order field.
  pub bytes_put : {paths sources order b c : List ℕ} → paths ≡ take 466 path_fields → sources ≡ take 256 source_part → order ≡ take 128 order_part →
      b ≡ take 466 (paths ++ field_bytes source_tag sources) → c ≡ take 466 (b ++ field_bytes order_tag order) → c ≡ bytes_of (execution_of w)
  bytes_put {paths} {sources} {order} {b} {c} p s o h k =
      let m = within w in
      let e = fields_joined in
      let f = take_all 256 source_part (omega (arith, length_sources (items w.sources), m.few_sources)) in
      let g = take_all 128 order_part (omega (arith, length_accesses (items w.order), m.few_accesses)) in
      let all = three_parts 466 path_fields (field_bytes source_tag source_part) (field_bytes order_tag order_part) (rw e (witnesses_have_at_most_466_bytes (execution_of w) m)) in
      k ∙ rw (h, p, s, o, f, g) (all ∙ e)
