-- One processor of several.
use Rattle.std.proofs.Common.{◌≡◌, ℕ, zero, suc, ◌<◌, ◌≤◌, List, [], ◌∷◌, map, length, get_or, take, set, replicate, sym, refl, ap, ◌∙◌, arith}
use Rattle.std.proofs.lemmas.List.{length-map, length-take, get_or-map, map-set, get_or-take}
use Rattle.bounded.specs.Items.{items}
use Rattle.question.specs.Views.{instructions_of, litmus_of}
use Rattle.instructions.specs.declared.instruction.Instruction.{Instruction}
use Rattle.question.specs.declared.question.Question.{Question}
use Rattle.machine.specs.declared.processor.Processor.{Processor}
use Rattle.memory.specs.declared.cell.Cell.{Cell}
use Rattle.witness.specs.declared.record.Access.{Access}
use Rattle.machine.specs.State.{Core, State, empty_core}
use Rattle.machine.specs.declared.open.OpenRun.{OpenRun}
use Rattle.machine.specs.Views.{core_of, cores_of, run_question}

-- A processor that was read is the core at its place.
pub core_read : (xs : List Processor) (p : ℕ) (d : Processor) → p < length xs → core_of (get_or xs p d) ≡ get_or (map core_of xs) p empty_core
core_read xs p d l = sym (get_or-map core_of xs p d empty_core l)

-- A processor that was changed and put back changes the core at its place.
pub core_put : (f : Core → Core) (xs : List Processor) (p : ℕ) (d y : Processor) → p < length xs → core_of y ≡ f (core_of (get_or xs p d)) →
    map core_of (set xs p y) ≡ set (map core_of xs) p (f (get_or (map core_of xs) p empty_core))
core_put f xs p d y l h = map-set core_of xs p y ∙ ap (set (map core_of xs) p) (h ∙ ap f (core_read xs p d l))

-- Setting one of the first n elements.
pub take_set_within : {A : Type 0} (n : ℕ) (xs : List A) (p : ℕ) (v : A) → p < n → take n (set xs p v) ≡ set (take n xs) p v
take_set_within zero xs p v l = absurd (omega arith)
take_set_within (suc n) [] p v l = refl
take_set_within (suc n) (x ∷ xs) zero v l = refl
take_set_within (suc n) (x ∷ xs) (suc p) v l = ap (λ ys. x ∷ ys) (take_set_within n xs p v (omega arith))

-- The core at one of the first n places.
pub core_within : (n : ℕ) (cs : List Core) (p : ℕ) → p < n → get_or (take n cs) p empty_core ≡ get_or cs p empty_core
core_within n cs p l = get_or-take n cs p empty_core l

-- A question has at most four processors.
pub few_processors : (q : Question) → length (litmus_of q).code ≤ 4
few_processors q =
    let v = q.processors in
    rw (length-map (items v) instructions_of) (omega (arith, length-take v.len v.slots, v.fits))

-- States with the same parts are the same.
pub same_state : {cs ds : List Core} {o u : List Access} {m n : List Cell} → cs ≡ ds → o ≡ u → m ≡ n →
    ◌≡◌ {A = State} (record { cores = cs; order = o; cells = m }) (record { cores = ds; order = u; cells = n })
same_state a b c = λ i. record { cores = a i; order = b i; cells = c i }

-- The entries of a processor that was read are those of its core in the state.
pub entries_read : {M : Type 0} (r : OpenRun M) (p : ℕ) (d : Processor) → p < length r.processors.rows → p < length (run_question r).code →
    items (get_or r.processors.rows p d).entries ≡ (get_or (cores_of (length (run_question r).code) r.processors) p empty_core).entries
entries_read r p d l h =
    ap (λ x. x.entries) (core_read r.processors.rows p d l ∙ sym (core_within (length (run_question r).code) (map core_of r.processors.rows) p h))

-- Some of four empty processors, one for each code.
pub all_empty : (codes : List (List Instruction)) (n : ℕ) → length codes ≤ n → take (length codes) (replicate n empty_core) ≡ map (λ _. empty_core) codes
all_empty [] n h = refl
all_empty (c ∷ cs) zero h = absurd (omega arith)
all_empty (c ∷ cs) (suc n) h = ap (λ xs. empty_core ∷ xs) (all_empty cs n (omega arith))
