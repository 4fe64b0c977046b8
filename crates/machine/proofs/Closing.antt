-- The loops that gather the results of a run, entry by entry and processor by processor.
use Rattle.std.proofs.Common.{◌≡◌, ℕ, ◌+◌, ◌*◌, ◌<◌, ◌≤◌, Bool, true, false, cond, ◌&&◌, ltb, List, [], ◌∷◌, suc, ◌++◌, map, length, get_or, take, Some, None, Option, sym, refl, ap, ◌∙◌, arith}
use Rattle.std.specs.List.{flat_map, list_all, zip, range_with_len}
use Rattle.std.proofs.lemmas.List.{append-nil, flat_map_more, take_more, take_all, take-map, map_push, map_more, length-append, length-take, length-map}
use Rattle.std.proofs.lemmas.Bool.{lt-ltb}
use Rattle.bounded.specs.Items.{items}
use Rattle.bounded.specs.declared.vector.Bounded.{Bounded}
use Rattle.bounded.proofs.Takes.{take_append_take}
use Rattle.memory.specs.declared.cell.Cell.{Cell}
use Rattle.instructions.specs.Kinds.{loads}
use Rattle.instructions.specs.declared.instruction.Instruction.{Instruction}
use Rattle.rules.specs.declared.entry.Entry.{Entry}
use Rattle.witness.specs.Execution.{Execution}
use Rattle.witness.specs.declared.record.Access.{Access}
use Rattle.witness.specs.declared.record.Source.{Source}
use Rattle.machine.specs.declared.processor.Processor.{Processor}
use Rattle.machine.specs.Results.{all_done, core_finished, all_finished, source_record, entry_sources, core_sources, core_path, Closed}
use Rattle.machine.specs.State.{Core}
use Rattle.machine.specs.Views.{core_of}

-- Every entry is done, as one test of all.
pub done_list : (es : List Entry) → list_all (λ (e : Entry). e.done) es ≡ all_done es
done_list [] = refl
done_list (e ∷ es) = ap (λ b. e.done && b) (done_list es)

-- A processor with its number is finished, by the code of that number.
abbrev pub finished_at : (ℕ → List Instruction) → Processor × ℕ → Bool
finished_at code p = core_finished (code p.1) (core_of p.0)

-- Every processor is finished, as one test of all with their numbers from a on.
pub finished_list : (code : ℕ → List Instruction) (codes : List (List Instruction)) (rows : List Processor) (a : ℕ) →
    ((k : ℕ) → k < length codes → code (a + k) ≡ get_or codes k []) →
    list_all (finished_at code) (zip rows (range_with_len a (length codes))) ≡ all_finished codes (map core_of rows)
finished_list code [] [] a h = refl
finished_list code [] (r ∷ rows) a h = refl
finished_list code (c ∷ codes) [] a h = refl
finished_list code (c ∷ codes) (r ∷ rows) a h =
    let here : code a ≡ c = ap code (omega arith) ∙ h 0 (omega arith) in
    let others : list_all (finished_at code) (zip rows (range_with_len (a + 1) (length codes))) ≡ all_finished codes (map core_of rows) =
    finished_list code codes rows (a + 1) (λ k l. ap code (omega arith) ∙ h (suc k) (omega arith)) in
    rw (here, others) refl

-- What is made of one element more, up to a capacity.
pub mapped_next : {X Y : Type 0} (f : X → Y) (n : ℕ) (xs : List X) (i : ℕ) (d : X) → i < length xs →
    take n (take n (map f (take i xs)) ++ f (get_or xs i d) ∷ []) ≡ take n (map f (take (i + 1) xs))
mapped_next f n xs i d l = take_append_take n (map f (take i xs)) (f (get_or xs i d) ∷ []) ∙ ap (take n) (sym (map_more f xs i d l))

module _ {X Y : Type 0} (view : X → Y) (g : Core → Y) (rows : List Processor) (i : ℕ) where
  -- What is made of one processor more is added to what was made of those before.
  pub rows_next : (all more : List X) (x : X) (d : Processor) → i < length rows → more ≡ take 4 (all ++ x ∷ []) →
      map view all ≡ take 4 (map g (map core_of (take i rows))) → view x ≡ g (core_of (get_or rows i d)) →
      map view more ≡ take 4 (map g (map core_of (take (i + 1) rows)))
  rows_next all more x d l e inv h =
      let front = map g (map core_of (take i rows)) in
      let y = core_of (get_or rows i d) in
      ap (map view) e
      ∙ sym (take-map view 4 (all ++ x ∷ []))
      ∙ ap (take 4) (map_push view all x)
      ∙ ap (λ ys. take 4 (ys ++ view x ∷ [])) inv
      ∙ ap (λ z. take 4 (take 4 front ++ z ∷ [])) h
      ∙ take_append_take 4 front (g y ∷ [])
      ∙ ap (take 4) (sym (map_push g (map core_of (take i rows)) y) ∙ ap (map g) (sym (map_more core_of rows i d l)))

  -- No processor is left.
  pub rows_all : (all : List X) → length rows ≤ i → map view all ≡ take 4 (map g (map core_of (take i rows))) →
      map view all ≡ take 4 (map g (map core_of rows))
  rows_all all l inv = inv ∙ ap (λ t. take 4 (map g (map core_of t))) (take_all i rows l)

-- The sources of one entry more.
pub sources_step : (start : List Source) (xs : List Entry) (i : ℕ) (d : Entry) → i < length xs →
    (start ++ flat_map entry_sources (take i xs)) ++ entry_sources (get_or xs i d) ≡ start ++ flat_map entry_sources (take (i + 1) xs)
sources_step start xs i d l =
    flat_map_more entry_sources start (take i xs) (get_or xs i d) ∙ ap (λ t. start ++ flat_map entry_sources t) (sym (take_more xs i d l))

module _ (start : List Source) (xs : List Entry) (i : ℕ) (d : Entry) (l : i < length xs) (held : List Source) (inv : held ≡ take 64 (start ++ flat_map entry_sources (take i xs))) where
  -- A load adds its source.
  pub sources_add : (x : Source) → entry_sources (get_or xs i d) ≡ x ∷ [] → take 64 (held ++ x ∷ []) ≡ take 64 (start ++ flat_map entry_sources (take (i + 1) xs))
  sources_add x h =
      let front = start ++ flat_map entry_sources (take i xs) in
      ap (λ ys. take 64 (ys ++ x ∷ [])) inv
      ∙ take_append_take 64 front (x ∷ [])
      ∙ ap (λ t. take 64 (front ++ t)) (sym h)
      ∙ ap (take 64) (sources_step start xs i d l)

  -- Another entry adds nothing.
  pub sources_skip : entry_sources (get_or xs i d) ≡ [] → held ≡ take 64 (start ++ flat_map entry_sources (take (i + 1) xs))
  sources_skip h =
      let front = start ++ flat_map entry_sources (take i xs) in
      inv ∙ ap (take 64) (sym (append-nil front) ∙ ap (λ t. front ++ t) (sym h) ∙ sources_step start xs i d l)

-- The sources of one processor more.
pub core_sources_next : (rows : List Processor) (i : ℕ) (d : Processor) → i < length rows →
    take 64 (take 64 (flat_map core_sources (map core_of (take i rows))) ++ core_sources (core_of (get_or rows i d)))
    ≡ take 64 (flat_map core_sources (map core_of (take (i + 1) rows)))
core_sources_next rows i d l =
    let cs = map core_of (take i rows) in
    take_append_take 64 (flat_map core_sources cs) (core_sources (core_of (get_or rows i d)))
    ∙ ap (take 64) (flat_map_more core_sources [] cs (core_of (get_or rows i d)) ∙ ap (flat_map core_sources) (sym (map_more core_of rows i d l)))

-- A load has one source.
pub load_source : (e : Entry) (x : Source) → loads e.instruction ≡ true → x ≡ source_record e.mark e.value → entry_sources e ≡ x ∷ []
load_source e x h s = rw h (ap (λ y. y ∷ []) (sym s))

-- What is no load has none.
pub no_source : (e : Entry) → loads e.instruction ≡ false → entry_sources e ≡ []
no_source e h = rw h

-- An entry has at most one source.
one_source : (e : Entry) → length (entry_sources e) ≤ 1
one_source e = go (loads e.instruction)
  where
    go : (b : Bool) → length (cond b (source_record e.mark e.value ∷ []) []) ≤ 1
    go true = omega arith
    go false = omega arith

-- There are at most as many sources as entries.
few_sources : (es : List Entry) → length (flat_map entry_sources es) ≤ length es
few_sources [] = omega arith
few_sources (e ∷ es) = omega (arith, length-append (entry_sources e) (flat_map entry_sources es), one_source e, few_sources es)

-- A processor has at most sixteen sources.
sixteen_sources : (p : Processor) → length (core_sources (core_of p)) ≤ 16
sixteen_sources p =
    let v = p.entries in
    omega (arith, few_sources (items v), length-take v.len v.slots, v.fits)

-- Sixteen sources a processor.
pub all_sources_few : (rows : List Processor) → length (flat_map core_sources (map core_of rows)) ≤ 16 * length rows
all_sources_few [] = omega arith
all_sources_few (p ∷ rows) =
    omega (arith, length-append (core_sources (core_of p)) (flat_map core_sources (map core_of rows)), sixteen_sources p, all_sources_few rows)

-- One to four processors have a witness: nothing of their paths and sources is cut off.
pub whole_witness : (rows : List Processor) (paths : List (Bounded ℕ 16)) (sources : List Source) (order : List Access) → 1 ≤ length rows → length rows ≤ 4 →
    map items paths ≡ take 4 (map core_path (map core_of rows)) →
    sources ≡ take 64 (flat_map core_sources (map core_of rows)) →
    cond {A = Option Execution} (ltb 0 (length paths)) (Some (record { paths = map items paths; sources = sources; order = order })) None
    ≡ Some (record { paths = map core_path (map core_of rows); sources = flat_map core_sources (map core_of rows); order = order })
whole_witness rows paths sources order l m p s =
    let cs = map core_of rows in
    let ps = map core_path cs in
    let n : length ps ≡ length rows = length-map cs core_path ∙ length-map rows core_of in
    let all : map items paths ≡ ps = p ∙ take_all 4 ps (omega arith) in
    let each : sources ≡ flat_map core_sources cs = s ∙ take_all 64 (flat_map core_sources cs) (omega (arith, all_sources_few rows)) in
    let some : ltb 0 (length paths) ≡ true = lt-ltb 0 (length paths) (omega (arith, length-map paths items, ap length all)) in
    rw some (λ i. Some (record { paths = all i; sources = each i; order = order }))

-- Closed runs with the same parts are the same.
pub same_closed : {f h : Bool} {rs ss : List (List ℕ)} {w v : Execution} {m n : List Cell} → f ≡ h → rs ≡ ss → w ≡ v → m ≡ n →
    ◌≡◌ {A = Closed} (record { finished = f; registers = rs; execution = w; cells = m }) (record { finished = h; registers = ss; execution = v; cells = n })
same_closed a b c d = λ i. record { finished = a i; registers = b i; execution = c i; cells = d i }
