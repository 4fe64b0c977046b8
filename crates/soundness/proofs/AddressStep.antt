-- Rule 8 keeps the invariant of the buffer, whatever it removes, if no done load is left that would have to look at a newly addressed store.
use Rattle.std.proofs.Common.{◌≡◌, ℕ, suc, ◌%◌, ◌<◌, ◌≤◌, true, ◌≢◌, ◌⊎◌, Some, Option, refl, inl, inr, arith}
use Rattle.std.proofs.lemmas.Bool.{cases_lt}
use Rattle.instructions.specs.Kinds.{loads, stores, first_operand}
use Rattle.instructions.specs.declared.instruction.Instruction.{Instruction}
use Rattle.ordering.specs.Constraints.{Feeds}
use Rattle.soundness.proofs.Worlds.{Row, known_cells, celled, cell}
use Rattle.soundness.proofs.Moves.{Upd, Address, addressed}
use Rattle.soundness.proofs.Constrained.{Six, Near, NoStore, same_to, same_from, near_to, near_from, refeed, redepend, refence}
use Rattle.soundness.proofs.Invariant.{Ok}
use Rattle.soundness.proofs.Times.{changed_code, celled_none, celled_some}

-- An address changes nothing for those who had theirs.
pub none_back : (ins : ℕ → Instruction) (A A' : ℕ → ℕ) (i a : ℕ) → Upd A A' i a → (b b' j k : ℕ) → 0 < b → b' ≡ b → NoStore ins A' b' j k → NoStore ins A b j k
none_back ins A A' i a u b b' j k z e h m p q st w = h m p q st (omega (arith, u m))

-- No done load below n' would have to look at an access at i whose address is a.
abbrev pub NoneLeft : Row → ℕ → ℕ → ℕ → Type 0
NoneLeft x i a n' =
    (k : ℕ) → k < n' → i < k → loads (x.instruction k) ≡ true → 0 < x.time k → cell x k ≡ suc (a % 16) →
    NoStore x.instruction (cell x) (suc (a % 16)) i k → ⊥

module _ (x : Row) (c i a : ℕ) (A' : ℕ → Option ℕ) (v : Ok x c) (r : Address x i a A') where
  -- The cell is known now, and was not.
  pub cell_now : Upd (cell x) (λ k. celled (A' k)) i (suc (a % 16))
  cell_now = rw (celled_some (Some a) a refl) at (changed_code celled x.address A' i (Some a) (celled_none (x.address i) r.wanting) r.now)

  pub waits : x.time i ≡ 0
  waits = elim (cases_lt 0 (x.time i)) [
    | inl d ↦ absurd (omega (arith, v.located i r.within d r.is, celled_none (x.address i) r.wanting))
    | inr e ↦ omega arith
  ]

  pub same_if_done : (k : ℕ) → 0 < x.time k → celled (A' k) ≡ cell x k
  same_if_done k d = elim (cell_now k) [ inl e ↦ absurd (let z : 0 < x.time i = rw e.0 at d in omega (arith, waits)) | inr e ↦ e.1 ]

  pub more : (k : ℕ) → 0 < cell x k → 0 < celled (A' k)
  more k h = omega (arith, cell_now k)

  module _ (n' : ℕ) (less : n' ≤ x.size) (past : i < n') (left : stores (x.instruction i) ≡ true → NoneLeft x i a n') where
    -- The nearest stores of a done load that is left are what they were.
    pub near_back : (m k : ℕ) → k < n' → 0 < x.time k → loads (x.instruction k) ≡ true → Near x.instruction (λ j. celled (A' j)) m k → Near x.instruction (cell x) m k
    near_back m k kn d l near = go (cell_now m)
      where
        e : celled (A' k) ≡ cell x k
        e = same_if_done k d

        none' : NoStore x.instruction (cell x) (cell x k) m k
        none' = none_back x.instruction (cell x) (λ j. celled (A' j)) i (suc (a % 16)) cell_now (cell x k) (celled (A' k)) m k (omega (arith, near.known, e)) e near.none

        go : ((m ≡ i) × (cell x m ≡ 0) × (celled (A' m) ≡ suc (a % 16))) ⊎ ((m ≢ i) × (celled (A' m) ≡ cell x m)) → Near x.instruction (cell x) m k
        go (inl q) = absurd (left (rw q.0 at near.store) k kn (omega (arith, near.before)) l d (omega (arith, near.same, e))
            (λ y p w st o. none' y (omega arith) w st (omega (arith, near.same, e))))
        go (inr q) = record { before = near.before; store = near.store; known = omega (arith, near.known, e); same = omega (arith, near.same, e); none = none' }

    pub near_on : (m k : ℕ) → k < n' → 0 < x.time k → loads (x.instruction k) ≡ true → Near x.instruction (cell x) m k → Near x.instruction (λ j. celled (A' j)) m k
    near_on m k kn d l near =
        let e = same_if_done k d in
        record {
          before = near.before;
          store = near.store;
          known = omega (arith, near.known);
          same = omega (arith, cell_now m, near.same, near.known);
          none = λ y p q st h. elim (cell_now y) [
            | inl z ↦ left (rw z.0 at st) k kn (omega arith) l d (omega arith) (λ y' p' q' st' h'. near.none y' (omega arith) q' st' (omega arith))
            | inr z ↦ near.none y p q st (omega arith)
          ];
        }

    -- Of what is done, the constraints keep no more than before.
    back : (j k : ℕ) → k < n' → 0 < x.time k → Six x.instruction (known_cells (λ m. celled (A' m))) j k → Six x.instruction (known_cells (cell x)) j k
    back j k kn d (Six.sa_mem_st h) =
        let o : 0 < cell x j = v.older k (omega (arith, less)) d h.store j h.earlier h.accesses in
        let s = same_to x.instruction (λ m. celled (A' m)) j k h.same in
        let e = same_if_done k d in
        Six.sa_mem_st (record {
          earlier = h.earlier;
          accesses = h.accesses;
          store = h.store;
          same = same_from x.instruction (cell x) j k (omega (arith, cell_now j)) (omega arith);
        })
    back j k kn d (Six.sa_st_ld h) = Six.sa_st_ld (record {
      load = h.load;
      nearest = h.nearest;
      store = near_from x.instruction (cell x) h.nearest k (near_back h.nearest k kn d h.load (near_to x.instruction (λ m. celled (A' m)) h.nearest k h.store));
      depends = redepend h.depends;
    })
    back j k kn d (Six.reg_raw h) = Six.reg_raw (redepend h)
    back j k kn d (Six.br_st h) = Six.br_st (record { earlier = h.earlier; branch = h.branch; store = h.store })
    back j k kn d (Six.addr_st h) = Six.addr_st (record {
      store = h.store;
      middle = h.middle;
      earlier = h.earlier;
      depends = record { accesses = h.depends.accesses; feeds = refeed h.depends.feeds };
    })
    back j k kn d (Six.fence_ord h) = Six.fence_ord (refence h)

    known_rests : (j k : ℕ) → k < n' → 0 < celled (A' k) → Feeds x.instruction (known_cells (cell x)) (first_operand (x.instruction k)) j k → 0 < x.time j
    known_rests j k kn h f = elim (cell_now k) [ inl e ↦ r.ready j (rw e.0 at f) | inr e ↦ v.addr j k (omega (arith, less)) (omega arith) f ]

    pub address_keeps : Ok (addressed x n' A') c
    address_keeps = record {
      clock = v.clock;
      order = λ j k kn d p. v.order j k (omega (arith, less)) d (back j k kn d p);
      addr = λ j k kn h f. known_rests j k kn h (refeed f);
      datum = λ j k kn h f. v.datum j k (omega (arith, less)) h (refeed f);
      located = λ k kn d y. more k (v.located k (omega (arith, less)) d y);
      given = λ k kn d y. v.given k (omega (arith, less)) d y;
      older = λ k kn d y j b z. more j (v.older k (omega (arith, less)) d y j b z);
    }

    -- No done store goes: one younger than i has all older addresses.
    pub no_store_lost : (k : ℕ) → n' ≤ k → k < x.size → stores (x.instruction k) ≡ true → 0 < x.time k → ⊥
    no_store_lost k p kn st d = omega (arith, celled_none (x.address i) r.wanting, v.older k kn d st i (omega arith) r.is)
