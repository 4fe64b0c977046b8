-- A well-formed witness is the bytes of the execution that it means.
use Rattle.std.proofs.Common.{◌≡◌, ℕ, ◌%◌, ◌<◌, ◌≤◌, Bool, true, false, cond, ◌&&◌, eqb, ltb, leb, ◌⊎◌, List, [], ◌∷◌, ◌++◌, length, Some, None, Ok, sym, refl, ap, inl, inr, arith}
use Rattle.std.specs.List.{flat_map, AllByRecursion}
use Rattle.std.proofs.lemmas.List.{append_assoc, append-nil, length-append}
use Rattle.std.proofs.lemmas.Bool.{ltb-true, leb-true, eqb-true, and_parts}
use Rattle.fields.specs.Fields.{field_bytes}
use Rattle.fields.specs.Rows.{Reads}
use Rattle.witness.specs.declared.record.Access.{Access}
use Rattle.witness.specs.declared.record.Source.{Source}
use Rattle.witness.specs.Bytes.{path_tag, source_tag, order_tag, bytes_of}
use Rattle.witness.specs.Execution.{Execution, Within}
use Rattle.witness.specs.Read.{Draft, no_fields, witness_allowed, witness_fits, witness_taken, witness_whole, witness_format}
use Rattle.witness.specs.Records.{source_bytes, access_bytes, sources_from, accesses_from}
use Rattle.format_laws.proofs.WitnessesRecords.{WholeRecords, whole_sources, whole_accesses}
use Rattle.format_laws.proofs.WitnessesWritten.{paths_so_far}

-- Behind the order field nothing comes.
after_order : (ps : List (List ℕ)) (xs : List Source) (ys : List Access) (b : List ℕ) (w : Execution) →
    Reads witness_format (record { paths = ps; sources = Some xs; order = Some ys }) b w → (b ≡ []) × (w ≡ record { paths = ps; sources = xs; order = ys })
after_order ps xs ys _ w (Reads.at_end h) = (refl, cc)
after_order ps xs ys _ w (Reads.field_first tag c rest t l a f k more) = absurd (no_field (eqb tag path_tag) (eqb tag source_tag) (eqb tag order_tag) a)
  where
    no_field : (x y z : Bool) → cond x false (cond y false (z && false)) ≡ true → ⊥
    no_field true y z h = let e : ◌≡◌ {A = ℕ} 0 1 = cc in omega arith
    no_field false true z h = let e : ◌≡◌ {A = ℕ} 0 1 = cc in omega arith
    no_field false false true h = let e : ◌≡◌ {A = ℕ} 0 1 = cc in omega arith
    no_field false false false h = let e : ◌≡◌ {A = ℕ} 0 1 = cc in omega arith

-- The bytes behind the source field are an order field.
record OrderNext (ps : List (List ℕ)) (xs : List Source) (b : List ℕ) (w : Execution) : Type 0 where
  contents : List ℕ
  front : b ≡ field_bytes order_tag contents
  fits : witness_fits order_tag (length contents) ≡ true
  means : w ≡ record { paths = ps; sources = xs; order = accesses_from contents }

-- Behind the source field an order field comes, and nothing behind it.
after_sources : (ps : List (List ℕ)) (xs : List Source) (b : List ℕ) (w : Execution) →
    Reads witness_format (record { paths = ps; sources = Some xs; order = None }) b w → OrderNext ps xs b w
after_sources ps xs _ w (Reads.at_end h) = absurd (let e : ◌≡◌ {A = ℕ} 0 1 = cc in omega arith)
after_sources ps xs _ w (Reads.field_first tag c rest t l a f k more) =
    go (eqb-true tag order_tag (order_field (eqb tag path_tag) (eqb tag source_tag) (eqb tag order_tag) a))
  where
    order_field : (x y z : Bool) → cond x false (cond y false (z && true)) ≡ true → z ≡ true
    order_field true y z h = absurd (let e : ◌≡◌ {A = ℕ} 0 1 = cc in omega arith)
    order_field false true z h = absurd (let e : ◌≡◌ {A = ℕ} 0 1 = cc in omega arith)
    order_field false false true h = refl
    order_field false false false h = h

    go : tag ≡ order_tag → OrderNext ps xs (field_bytes tag c ++ rest) w
    go e =
        let s : Draft = record { paths = ps; sources = Some xs; order = None } in
        let q : witness_taken s order_tag c ≡ Ok t = rw e at k in
        let r : record { paths = ps; sources = Some xs; order = Some (accesses_from c) } ≡ t = cc in
        let n = after_order ps xs (accesses_from c) rest w (rw (← r) at more) in
        record {
          contents = c;
          front = rw (e, n.0) (append-nil (field_bytes order_tag c));
          fits = rw e at f;
          means = n.1;
        }

-- The bytes behind the path fields qs are more of them, then the source field, then the order field.
record PathsNext (qs : List (List ℕ)) (b : List ℕ) (w : Execution) : Type 0 where
  paths : List (List ℕ)
  sources : List ℕ
  order : List ℕ
  front : b ≡ flat_map (field_bytes path_tag) paths ++ (field_bytes source_tag sources ++ field_bytes order_tag order)
  means : w ≡ record { paths = qs ++ paths; sources = sources_from sources; order = accesses_from order }
  some : 0 < length (qs ++ paths)
  few : length (qs ++ paths) ≤ 4
  short : AllByRecursion (λ p. length p ≤ 16) paths
  sources_fit : witness_fits source_tag (length sources) ≡ true
  order_fits : witness_fits order_tag (length order) ≡ true

-- One path field more.
path_first : (qs : List (List ℕ)) (p rest : List ℕ) (w : Execution) → length p ≤ 16 → PathsNext (qs ++ p ∷ []) rest w → PathsNext qs (field_bytes path_tag p ++ rest) w
path_first qs p rest w l n =
    let e = append_assoc qs (p ∷ []) n.paths in
    record {
      paths = p ∷ n.paths;
      sources = n.sources;
      order = n.order;
      front = rw n.front (sym (append_assoc (field_bytes path_tag p) (flat_map (field_bytes path_tag) n.paths) (field_bytes source_tag n.sources ++ field_bytes order_tag n.order)));
      means = rw e at n.means;
      some = rw e at n.some;
      few = rw e at n.few;
      short = (l, n.short);
      sources_fit = n.sources_fit;
      order_fits = n.order_fits;
    }

-- The source field.
source_first : (qs : List (List ℕ)) (c rest : List ℕ) (w : Execution) → 0 < length qs → length qs ≤ 4 → witness_fits source_tag (length c) ≡ true →
    OrderNext qs (sources_from c) rest w → PathsNext qs (field_bytes source_tag c ++ rest) w
source_first qs c rest w some few f n =
    let e = append-nil qs in
    record {
      paths = [];
      sources = c;
      order = n.contents;
      front = ap (◌++◌ (field_bytes source_tag c)) n.front;
      means = rw e n.means;
      some = rw e some;
      few = rw e few;
      short = tt;
      sources_fit = f;
      order_fits = n.fits;
    }

-- What may come behind path fields: a path field while there are fewer than four, or the source field if there is one.
behind_paths : (x y z : Bool) (tag : ℕ) (n : ℕ) → eqb tag path_tag ≡ x → eqb tag source_tag ≡ y → cond x (ltb n 4) (cond y (ltb 0 n) (z && false)) ≡ true →
    ((tag ≡ path_tag) × (n < 4)) ⊎ ((tag ≡ source_tag) × (0 < n))
behind_paths true y z tag n p q h = inl (eqb-true tag path_tag p, ltb-true n 4 h)
behind_paths false true z tag n p q h = inr (eqb-true tag source_tag q, ltb-true 0 n h)
behind_paths false false true tag n p q h = absurd (let e : ◌≡◌ {A = ℕ} 0 1 = cc in omega arith)
behind_paths false false false tag n p q h = absurd (let e : ◌≡◌ {A = ℕ} 0 1 = cc in omega arith)

-- What is known after a path field.
path_taken : (qs : List (List ℕ)) (tag : ℕ) (c : List ℕ) (t : Draft) → tag ≡ path_tag → witness_taken (paths_so_far qs) tag c ≡ Ok t → t ≡ paths_so_far (qs ++ c ∷ [])
path_taken qs tag c t e k = let q : witness_taken (paths_so_far qs) path_tag c ≡ Ok t = rw e at k in cc

-- What is known after the source field.
source_taken : (qs : List (List ℕ)) (tag : ℕ) (c : List ℕ) (t : Draft) → tag ≡ source_tag → witness_taken (paths_so_far qs) tag c ≡ Ok t →
    t ≡ record { paths = qs; sources = Some (sources_from c); order = None }
source_taken qs tag c t e k = let q : witness_taken (paths_so_far qs) source_tag c ≡ Ok t = rw e at k in cc

-- A field behind path fields, with what is known of the bytes behind a path field.
field_behind : (qs : List (List ℕ)) (tag : ℕ) (c rest : List ℕ) (t : Draft) (w : Execution) → length qs ≤ 4 →
    witness_allowed (paths_so_far qs) tag ≡ true → witness_fits tag (length c) ≡ true → witness_taken (paths_so_far qs) tag c ≡ Ok t → Reads witness_format t rest w →
    (t ≡ paths_so_far (qs ++ c ∷ []) → length (qs ++ c ∷ []) ≤ 4 → PathsNext (qs ++ c ∷ []) rest w) → PathsNext qs (field_bytes tag c ++ rest) w
field_behind qs tag c rest t w few a f k more next = go (behind_paths (eqb tag path_tag) (eqb tag source_tag) (eqb tag order_tag) tag (length qs) refl refl a)
  where
    path : tag ≡ path_tag → length qs < 4 → PathsNext qs (field_bytes tag c ++ rest) w
    path e l =
        let i : leb (length c) 16 ≡ true = rw e at f in
        let m = length-append qs (c ∷ []) in
        rw e (path_first qs c rest w (leb-true (length c) 16 i) (next (path_taken qs tag c t e k) (omega arith)))

    source : tag ≡ source_tag → 0 < length qs → PathsNext qs (field_bytes tag c ++ rest) w
    source e l =
        let r = source_taken qs tag c t e k in
        rw e (source_first qs c rest w l few (rw e at f) (after_sources qs (sources_from c) rest w (rw r at more)))

    go : ((tag ≡ path_tag) × (length qs < 4)) ⊎ ((tag ≡ source_tag) × (0 < length qs)) → PathsNext qs (field_bytes tag c ++ rest) w
    go (inl p) = path p.0 p.1
    go (inr p) = source p.0 p.1

-- Paths alone are not a witness.
paths_unfinished : (qs : List (List ℕ)) (w : Execution) → witness_whole (paths_so_far qs) ≡ Ok w → ⊥
paths_unfinished qs w h = let e : ◌≡◌ {A = ℕ} 0 1 = cc in omega arith

-- Behind path fields more of them come, then the source field, then the order field.
after_paths : (s : Draft) (qs : List (List ℕ)) (b : List ℕ) (w : Execution) → s ≡ paths_so_far qs → length qs ≤ 4 → Reads witness_format s b w → PathsNext qs b w
after_paths s qs _ w d few (Reads.at_end h) = absurd (paths_unfinished qs w (rw d at h))
after_paths s qs _ w d few (Reads.field_first tag c rest t l a f k more) =
    field_behind qs tag c rest t w few (rw d at a) f (rw d at k) more (λ r m. after_paths t (qs ++ c ∷ []) rest w r m more)

-- What holds of each element of joined lists holds of the first list's.
all_front : {X : Type 0} (Q : X → Type 0) (xs ys : List X) → AllByRecursion Q (xs ++ ys) → AllByRecursion Q xs
all_front Q [] ys h = tt
all_front Q (x ∷ xs) ys h = (h.0, all_front Q xs ys h.1)

-- It holds of the second list's.
all_behind : {X : Type 0} (Q : X → Type 0) (xs ys : List X) → AllByRecursion Q (xs ++ ys) → AllByRecursion Q ys
all_behind Q [] ys h = h
all_behind Q (x ∷ xs) ys h = all_behind Q xs ys h.1

-- The contents of the source field are bytes.
source_contents : (ps : List ℕ) (s o : List ℕ) → AllByRecursion (λ x. x < 256) (ps ++ (field_bytes source_tag s ++ o)) → AllByRecursion (λ x. x < 256) s
source_contents ps s o h =
    (all_front (λ x. x < 256) (field_bytes source_tag s) o (all_behind (λ x. x < 256) ps (field_bytes source_tag s ++ o) h)).1.1.1

module _ (b : List ℕ) (w : Execution) (n : PathsNext [] b w) (bytes : AllByRecursion (λ x. x < 256) b) where
  -- The execution that the fields state.
  abbrev stated : Execution
  stated = record { paths = n.paths; sources = sources_from n.sources; order = accesses_from n.order }

  -- Whole sources, at most 64.
  source_size : (length n.sources ≤ 256) × (length n.sources % 4 ≡ 0)
  source_size =
      let k = and_parts (leb (length n.sources) 256) (eqb (length n.sources % 4) 0) n.sources_fit in
      (leb-true (length n.sources) 256 k.0, eqb-true (length n.sources % 4) 0 k.1)

  -- Whole accesses, at most 64.
  order_size : (length n.order ≤ 128) × (length n.order % 2 ≡ 0)
  order_size =
      let k = and_parts (leb (length n.order) 128) (eqb (length n.order % 2) 0) n.order_fits in
      (leb-true (length n.order) 128 k.0, eqb-true (length n.order % 2) 0 k.1)

  -- The source field has the bytes of its sources.
  source_records : WholeRecords source_bytes 4 (sources_from n.sources) n.sources
  source_records =
      whole_sources n.sources
      (source_contents (flat_map (field_bytes path_tag) n.paths) n.sources (field_bytes order_tag n.order) (rw n.front at bytes)) source_size.1

  -- The order field has the bytes of its accesses.
  order_records : WholeRecords access_bytes 2 (accesses_from n.order) n.order
  order_records = whole_accesses n.order order_size.1

  -- It is within the bounds.
  stated_within : Within stated
  stated_within =
      let ss = source_size.0 in
      let os = order_size.0 in
      let sn = source_records.number in
      let on = order_records.number in
      record {
        some_path = n.some;
        few_paths = n.few;
        short_paths = n.short;
        few_sources = omega arith;
        few_accesses = omega arith;
      }

  -- The bytes are its bytes.
  stated_bytes : b ≡ bytes_of stated
  unfolding bytes_of
  stated_bytes = rw (source_records.same, order_records.same) n.front

  -- It is what the witness means.
  encoded : Within w × (b ≡ bytes_of w)
  encoded = rw n.means (stated_within, stated_bytes)

-- A well-formed witness is the bytes of the execution that it means, which is within the bounds.
pub read_means : (b : List ℕ) → AllByRecursion (λ x. x < 256) b → (w : Execution) → Reads witness_format no_fields b w → Within w × (b ≡ bytes_of w)
read_means b h w r = encoded b w (after_paths no_fields [] b w refl (omega arith) r) h
