-- What the searches of the rules found, as statements on older and younger entries.
use Rattle.std.proofs.Common.{◌≡◌, ℕ, ◌+◌, ◌-◌, ◌<◌, Bool, true, false, not, ◌&&◌, ◌||◌, length, is_some, Some, None, Option, sym, refl, ◌∙◌, arith}
use Rattle.std.proofs.lemmas.Bool.{both_ways, and_parts, and_from, or_parts, or_left, or_right, not-true, not-false, not_from_false}
use Rattle.instructions.specs.declared.instruction.AccessType.{AccessType}
use Rattle.instructions.specs.declared.instruction.AccessType.TheVariants as access_type
use Rattle.instructions.specs.declared.instruction.Instruction.{Instruction}
use Rattle.instructions.specs.Kinds.{loads, stores, access, branches, of_type, fence_from, fence_to}
use Rattle.search.specs.Search.{nearest, first, passes, Nearest, First}
use Rattle.search.proofs.Searches.{nearest_some, nearest_none, first_some, first_is, passes_at}
use Rattle.rules.specs.declared.entry.Entry.{Entry}
use Rattle.rules.specs.Entries.{blank}
use Rattle.rules.specs.Tests.{same_cell, open_for_fence, open_fence_to_load, open_fence_to_store, open_to_cell, holds_store, to_cell}
use Rattle.machine.specs.State.{State}
use Rattle.machine.specs.Fires.{buffer, entry, instruction, Older, OpenTo, NearestOpen, FirstYounger}
use Rattle.machine_laws.proofs.GoneReady.{as_entry}

-- Not both this and the absence of that: this gives that.
closed : (a d : Bool) → (a && not d) ≡ false → a ≡ true → d ≡ true
closed true d e h = not-false d e
closed false d e h = absurd (both_ways false refl h)

-- An entry that is not an open access of a fence's first type is done, if it is an access of a type that the fence puts first.
closed_for_fence : (fence : Instruction) (e : Entry) → open_for_fence fence e ≡ false →
    (t : AccessType) → fence_from t fence ≡ true → of_type t e.instruction ≡ true → e.done ≡ true
closed_for_fence fence e f t a b = closed (first_loads || first_stores) e.done f (first_type t a b)
  where
    first_loads : Bool
    first_loads = fence_from access_type.Load fence && loads e.instruction

    first_stores : Bool
    first_stores = fence_from access_type.Store fence && stores e.instruction

    first_type : (u : AccessType) → fence_from u fence ≡ true → of_type u e.instruction ≡ true → (first_loads || first_stores) ≡ true
    first_type access_type.Load x y = or_left first_loads first_stores (and_from (fence_from access_type.Load fence) (loads e.instruction) x y)
    first_type access_type.Store x y = or_right first_loads first_stores (and_from (fence_from access_type.Store fence) (stores e.instruction) x y)

-- The test for an open access to a cell tells one.
pub is_open : (a : ℕ) (e : Entry) → open_to_cell a e ≡ true → OpenTo a e
is_open a e h =
    let k : (access e.instruction ≡ true) × ((not e.done && same_cell a e.address) ≡ true) = and_parts (access e.instruction) (not e.done && same_cell a e.address) h in
    let m : (not e.done ≡ true) × (same_cell a e.address ≡ true) = and_parts (not e.done) (same_cell a e.address) k.1 in
    (k.0, not-true e.done m.0, m.1)

-- Where the test for an open access to a cell fails there is none.
pub not_open : (a : ℕ) (e : Entry) → open_to_cell a e ≡ false → OpenTo a e → ⊥
not_open a e f o =
    both_ways (open_to_cell a e) f (and_from (access e.instruction) (not e.done && same_cell a e.address) o.0
    (and_from (not e.done) (same_cell a e.address) (not_from_false e.done o.1) o.2))

-- What does not hold a store back.
pub record LetsStore (a : ℕ) (e : Entry) : Type 0 where
  pub turned : branches e.instruction ≡ true → e.done ≡ true
  pub addressed : access e.instruction ≡ true → is_some e.address ≡ true
  pub cell_free : OpenTo a e → ⊥
  pub fence_done : fence_to access_type.Store e.instruction ≡ true → e.done ≡ true

-- Where the test for what holds a store back fails, nothing of it does.
lets_store : (a : ℕ) (e : Entry) → holds_store a e ≡ false → LetsStore a e
lets_store a e f =
    let b1 : Bool = branches e.instruction && not e.done in
    let b2 : Bool = access e.instruction && not (is_some e.address) in
    let k : (b1 ≡ false) × ((b2 || (open_to_cell a e || open_fence_to_store e)) ≡ false) = or_parts b1 (b2 || (open_to_cell a e || open_fence_to_store e)) f in
    let m : (b2 ≡ false) × ((open_to_cell a e || open_fence_to_store e) ≡ false) = or_parts b2 (open_to_cell a e || open_fence_to_store e) k.1 in
    let w : (open_to_cell a e ≡ false) × (open_fence_to_store e ≡ false) = or_parts (open_to_cell a e) (open_fence_to_store e) m.1 in
    record {
      turned = closed (branches e.instruction) e.done k.0;
      addressed = closed (access e.instruction) (is_some e.address) m.0;
      cell_free = not_open a e w.0;
      fence_done = closed (fence_to access_type.Store e.instruction) e.done w.1;
    }

module _ (s : State) (p i : ℕ) (l : i < length (buffer s p)) where
  -- Nothing was found: every older entry fails the test.
  pub none_older : (f : Entry → Bool) → nearest (passes f (buffer s p)) i ≡ None → Older s p i (λ e. f e ≡ false)
  none_older f n j h = as_entry s p i l f false j h (nearest_none (passes f (buffer s p)) i n j h)

  -- Nothing was found that keeps a fence from being done.
  pub fence_free : (fence : Instruction) → nearest (passes (open_for_fence fence) (buffer s p)) i ≡ None →
      (t : AccessType) → fence_from t fence ≡ true → Older s p i (λ e. of_type t e.instruction ≡ true → e.done ≡ true)
  fence_free fence n t a j h b = closed_for_fence fence (entry s p j) (none_older (open_for_fence fence) n j h) t a b

  -- No open fence that loads come after was found.
  pub load_free : nearest (passes open_fence_to_load (buffer s p)) i ≡ None → Older s p i (λ e. fence_to access_type.Load e.instruction ≡ true → e.done ≡ true)
  load_free n j h = closed (fence_to access_type.Load (instruction s p j)) (entry s p j).done (none_older open_fence_to_load n j h)

  -- No open access to the cell was found.
  pub none_open : (a : ℕ) → nearest (passes (open_to_cell a) (buffer s p)) i ≡ None → Older s p i (λ e. OpenTo a e → ⊥)
  none_open a n j h = not_open a (entry s p j) (none_older (open_to_cell a) n j h)

  -- The open access that was found is the nearest.
  pub nearest_open : (a j : ℕ) → nearest (passes (open_to_cell a) (buffer s p)) i ≡ Some j → NearestOpen s p i a j
  nearest_open a j e =
      let n : Nearest (passes (open_to_cell a) (buffer s p)) i j = nearest_some (passes (open_to_cell a) (buffer s p)) i j e in
      record {
        older = n.below;
        open_to_cell = is_open a (entry s p j) (as_entry s p i l (open_to_cell a) true j n.below n.hit);
        none_between = λ k b c. not_open a (entry s p k) (as_entry s p i l (open_to_cell a) false k c (n.between k b c));
      }

  -- Nothing was found that holds the store back.
  pub store_free : (a : ℕ) → nearest (passes (holds_store a) (buffer s p)) i ≡ None → Older s p i (LetsStore a)
  store_free a n j h = lets_store a (entry s p j) (none_older (holds_store a) n j h)

  -- The search for the first younger access to a cell.
  abbrev pub first_younger : ℕ → Option ℕ
  first_younger a = first (passes (to_cell a) (buffer s p)) (i + 1) (length (buffer s p) - (i + 1))

  -- The access that was found is the first younger one to the cell.
  pub found_younger : (a m : ℕ) → first_younger a ≡ Some m → FirstYounger s p i a m
  found_younger a m e =
      let f : First (passes (to_cell a) (buffer s p)) (i + 1) (length (buffer s p) - (i + 1)) m =
      first_some (passes (to_cell a) (buffer s p)) (i + 1) (length (buffer s p) - (i + 1)) m e in
      let w : m < length (buffer s p) = omega (arith, f.within) in
      let h : (access (instruction s p m) ≡ true) × (same_cell a (entry s p m).address ≡ true) =
      and_parts (access (instruction s p m)) (same_cell a (entry s p m).address) (sym (passes_at (to_cell a) (buffer s p) m blank w) ∙ f.hit) in
      record {
        younger = omega (arith, f.from);
        within = w;
        accesses = h.0;
        same = h.1;
        none_between = λ k b c x y. both_ways (to_cell a (entry s p k))
            (sym (passes_at (to_cell a) (buffer s p) k blank (omega arith)) ∙ f.between k (omega arith) c)
            (and_from (access (instruction s p k)) (same_cell a (entry s p k).address) x y);
      }

  -- The first younger access to the cell is what is found.
  pub younger_found : (a m : ℕ) → FirstYounger s p i a m → first_younger a ≡ Some m
  younger_found a m f = first_is (passes (to_cell a) (buffer s p)) (i + 1) (length (buffer s p) - (i + 1)) m (record {
    from = omega (arith, f.younger);
    within = omega (arith, f.younger, f.within);
    hit = passes_at (to_cell a) (buffer s p) m blank f.within ∙ and_from (access (instruction s p m)) (same_cell a (entry s p m).address) f.accesses f.same;
    between = λ k b c. passes_at (to_cell a) (buffer s p) k blank (omega (arith, f.within)) ∙ not_there k (omega arith) c;
  })
    where
      go : (k : ℕ) → i < k → k < m → (b : Bool) → to_cell a (entry s p k) ≡ b → b ≡ false
      go k x y true e =
          let h : (access (instruction s p k) ≡ true) × (same_cell a (entry s p k).address ≡ true) =
          and_parts (access (instruction s p k)) (same_cell a (entry s p k).address) e in
          absurd (f.none_between k x y h.0 h.1)
      go k x y false e = refl

      not_there : (k : ℕ) → i < k → k < m → to_cell a (entry s p k) ≡ false
      not_there k x y = go k x y (to_cell a (entry s p k)) refl
