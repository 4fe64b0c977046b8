-- Where the whole order is carried out and every entry is done, the state's witness is the one that was rebuilt.
use Rattle.std.proofs.Common.{◌≡◌, ℕ, zero, suc, ◌+◌, ◌-◌, ◌<◌, ◌≤◌, Bool, true, false, ◌&&◌, eqb, List, [], ◌∷◌, ◌++◌, map, length, get_or, take, sym, refl, ap, ◌∙◌, subst, ap₂, arith}
use Rattle.std.specs.List.{flat_map}
use Rattle.std.proofs.lemmas.List.{append-nil, flat_map_more, length-map, get_or-map, take_all, take_more, ext_get_or}
use Rattle.std.proofs.lemmas.Bool.{and_parts, eqb-true, cond-true, cond-false}
use Rattle.checker.specs.Axioms.{Path}
use Rattle.checker.specs.Terms.{event}
use Rattle.checker_laws.proofs.Built.{path_event_is}
use Rattle.events.specs.declared.event.Event.{Event}
use Rattle.question.specs.Litmus.{instruction_at, Litmus, code_at}
use Rattle.events.specs.Sources.{path_at, loads_upto, loads_before, no_source, source_at}
use Rattle.events.proofs.LoadCounts.{loads_none, loads_next, loads_more, loads_same, before_none, before_next}
use Rattle.instructions.specs.Kinds.{loads}
use Rattle.instructions.specs.declared.instruction.Instruction.{Instruction}
use Rattle.machine.specs.Fires.{buffer, entry, instruction}
use Rattle.machine.specs.Results.{source_record, entry_sources, core_sources, core_path, witness_of_state}
use Rattle.machine.specs.State.{State, empty_core, core_at}
use Rattle.rules.specs.Entries.{blank}
use Rattle.rules.specs.declared.entry.Entry.{Entry}
use Rattle.witness.specs.Execution.{Execution}
use Rattle.witness.specs.declared.record.Source.{Source}
use Rattle.completeness.proofs.Related.{Related, named_mark}

-- The mark that a record names, with its value, is the record.
record_of_mark : (r : Source) → source_record (named_mark r) r.value ≡ r
record_of_mark r = go (eqb r.processor 255 && eqb r.position 255) refl
  where
    go : (b : Bool) → (eqb r.processor 255 && eqb r.position 255) ≡ b → source_record (named_mark r) r.value ≡ r
    go true e =
        let k = and_parts (eqb r.processor 255) (eqb r.position 255) e in
        rw e (ap₂ (λ x y. record { processor = x; position = y; value = r.value }) (sym (eqb-true r.processor 255 k.0)) (sym (eqb-true r.position 255 k.1)))
    go false e = rw e refl

-- A number that never falls from one to the next never falls.
rises : (f : ℕ → ℕ) → ((n : ℕ) → f n ≤ f (n + 1)) → (n k : ℕ) → f n ≤ f (n + k)
rises f up n zero = let z : n + 0 ≡ n = omega arith in rw z (omega arith)
rises f up n (suc k) =
    let z : n + suc k ≡ (n + k) + 1 = omega arith in
    let h : f n ≤ f (n + k) = rises f up n k in
    rw z (omega (arith, up (n + k)))

-- The loads of a front are no more than those of a longer one.
loads_rise : (code : List Instruction) (places : List ℕ) (n k : ℕ) → n ≤ k → loads_upto code places n ≤ loads_upto code places k
loads_rise code places n k l =
    let z : n + (k - n) ≡ k = omega arith in
    subst (λ m. loads_upto code places n ≤ loads_upto code places m) z (rises (loads_upto code places) (λ m. omega (arith, loads_next code places m)) n (k - n))

before_rises : (q : Litmus) (w : Execution) (n k : ℕ) → n ≤ k → loads_before q w n ≤ loads_before q w k
before_rises q w n k l =
    let z : n + (k - n) ≡ k = omega arith in
    subst (λ m. loads_before q w n ≤ loads_before q w m) z (rises (loads_before q w) (λ m. omega (arith, before_next q w m)) n (k - n))

-- A front that is longer by one, joined.
joined_front : {X A : Type 0} (f : X → List A) (xs : List X) (n : ℕ) (d : X) (bs : List A) → n < length xs →
    bs ++ flat_map f (take (n + 1) xs) ≡ (bs ++ flat_map f (take n xs)) ++ f (get_or xs n d)
joined_front f xs n d bs l = ap (λ z. bs ++ flat_map f z) (take_more xs n d l) ∙ sym (flat_map_more f bs (take n xs) (get_or xs n d))

module _ (q : Litmus) (w : Execution) (path : Path q w) (t : ℕ) (s : State) (R : Related q w t s)
    (done : (p i : ℕ) → i < length (path_at w p) → (entry s p i).done ≡ true) where
  -- The number of loads before position i of processor p.
  abbrev number : ℕ → ℕ → ℕ
  number p i = loads_before q w p + loads_upto (code_at q p) (path_at w p) i

  module _ (p i : ℕ) (l : i < length (path_at w p)) where
    abbrev run_there : Instruction
    run_there = instruction_at (code_at q p) (get_or (path_at w p) i 0)

    place_there : (entry s p i).place ≡ get_or (path_at w p) i 0
    place_there = R.places p i l ∙ ap (λ (e : Event). e.place) (path_event_is q w p i l)

    instruction_there : instruction s p i ≡ run_there
    instruction_there = (R.invariant.entries p i (omega (arith, R.whole p))).in_code.there ∙ ap (instruction_at (code_at q p)) place_there

    event_there : (event q w p i).instruction ≡ run_there
    event_there = ap (λ (e : Event). e.instruction) (path_event_is q w p i l)

    -- A load has its record.
    load_record : loads run_there ≡ true → source_record (entry s p i).mark (entry s p i).value ≡ source_at q w p i
    load_record h =
        let z = R.sourced p i (l, rw event_there h) (done p i l) in
        ap₂ source_record z.mark z.value ∙ record_of_mark (source_at q w p i)

    -- One position more takes one record more where it is a load.
    module _ (here : p < length q.code) where
      more_records : (b : Bool) → loads run_there ≡ b → take (number p i) w.sources ++ entry_sources (entry s p i) ≡ take (number p (i + 1)) w.sources
      more_records true h =
          let there : loads (instruction s p i) ≡ true = rw instruction_there h in
          let z : number p (i + 1) ≡ number p i + 1 = omega (arith, loads_more (code_at q p) (path_at w p) i h) in
          let few : number p i < length w.sources =
          omega (arith, path.records, before_rises q w (p + 1) (length q.code) (omega arith), before_next q w p, loads_rise (code_at q p) (path_at w p) (i + 1) (length (path_at w p)) (omega arith)) in
          ap (λ x. take (number p i) w.sources ++ x) (cond-true (loads (instruction s p i)) _ _ there ∙ ap (λ x. x ∷ []) (load_record h))
          ∙ sym (take_more w.sources (number p i) no_source few) ∙ ap (λ k. take k w.sources) (sym z)
      more_records false h =
          let there : loads (instruction s p i) ≡ false = rw instruction_there h in
          let z : number p (i + 1) ≡ number p i = omega (arith, loads_same (code_at q p) (path_at w p) i h) in
          ap (λ x. take (number p i) w.sources ++ x) (cond-false (loads (instruction s p i)) _ _ there)
          ∙ append-nil (take (number p i) w.sources) ∙ ap (λ k. take k w.sources) (sym z)

  -- The records of the first n positions of processor p.
  front_records : (p : ℕ) → p < length q.code → (n : ℕ) → n ≤ length (path_at w p) →
      take (loads_before q w p) w.sources ++ flat_map entry_sources (take n (buffer s p)) ≡ take (number p n) w.sources
  front_records p here zero l =
      let z : number p 0 ≡ loads_before q w p = omega (arith, loads_none (code_at q p) (path_at w p)) in
      append-nil (take (loads_before q w p) w.sources) ∙ ap (λ k. take k w.sources) (sym z)
  front_records p here (suc n) l =
      let z : suc n ≡ n + 1 = omega arith in
      subst (λ m. take (loads_before q w p) w.sources ++ flat_map entry_sources (take m (buffer s p)) ≡ take (number p m) w.sources) (sym z)
      (joined_front entry_sources (buffer s p) n blank (take (loads_before q w p) w.sources) (omega (arith, R.whole p))
      ∙ ap (λ x. x ++ entry_sources (entry s p n)) (front_records p here n (omega arith))
      ∙ more_records p n (omega arith) here (loads (run_there p n (omega arith))) refl)

  -- The records of processor p.
  core_records : (p : ℕ) → p < length q.code →
      take (loads_before q w p) w.sources ++ core_sources (core_at s p) ≡ take (loads_before q w (p + 1)) w.sources
  core_records p here =
      let n = length (path_at w p) in
      let all : take n (buffer s p) ≡ buffer s p = take_all n (buffer s p) (omega (arith, R.whole p)) in
      ap (λ x. take (loads_before q w p) w.sources ++ flat_map entry_sources x) (sym all)
      ∙ front_records p here n (omega arith) ∙ ap (λ k. take k w.sources) (sym (before_next q w p))

  -- The records of the first n processors.
  processor_records : (n : ℕ) → n ≤ length q.code → flat_map core_sources (take n s.cores) ≡ take (loads_before q w n) w.sources
  processor_records zero l = ap (λ k. take k w.sources) (sym (before_none q w))
  processor_records (suc n) l =
      let z : suc n ≡ n + 1 = omega arith in
      subst (λ m. flat_map core_sources (take m s.cores) ≡ take (loads_before q w m) w.sources) (sym z)
      (joined_front core_sources s.cores n empty_core [] (omega (arith, R.invariant.processors))
      ∙ ap (λ x. x ++ core_sources (core_at s n)) (processor_records n (omega arith))
      ∙ core_records n (omega arith))

  same_sources : flat_map core_sources s.cores ≡ w.sources
  same_sources =
      let n = length q.code in
      ap (flat_map core_sources) (sym (take_all n s.cores (omega (arith, R.invariant.processors))))
      ∙ processor_records n (omega arith) ∙ take_all (loads_before q w n) w.sources (omega (arith, path.records))

  core_path_is : (p : ℕ) → core_path (core_at s p) ≡ path_at w p
  core_path_is p = ext_get_or 0 (core_path (core_at s p)) (path_at w p) (length-map (buffer s p) (λ e. e.place) ∙ R.whole p)
      (λ i l. let m : i < length (buffer s p) = omega (arith, length-map (buffer s p) (λ e. e.place)) in
      get_or-map (λ (e : Entry). e.place) (buffer s p) i blank 0 m ∙ place_there p i (omega (arith, R.whole p)))

  same_paths : map core_path s.cores ≡ w.paths
  same_paths = ext_get_or [] (map core_path s.cores) w.paths (length-map s.cores core_path ∙ R.invariant.processors ∙ sym path.paths)
      (λ p l. let m : p < length s.cores = omega (arith, length-map s.cores core_path) in
      get_or-map core_path s.cores p empty_core [] m ∙ core_path_is p)

  -- Paths, sources and order are those of the witness.
  pub same_witness : t ≡ length w.order → witness_of_state s ≡ w
  same_witness e =
      let ordered : s.order ≡ w.order = R.order ∙ take_all t w.order (omega arith) in
      ap₂ (λ x y. record { paths = x; sources = y; order = s.order }) same_paths same_sources
      ∙ ap (λ z. record { paths = w.paths; sources = w.sources; order = z }) ordered
