-- The ordering constraints over rows of cell numbers: six of them apart from same-address load-load order, and what they see of a row.
use Rattle.std.proofs.Common.{◌≡◌, ℕ, zero, suc, ◌<◌, true, ◌⊎◌, Some, Option, refl, ap, ◌∙◌, inl, inr, arith}
use Rattle.instructions.specs.Kinds.{stores}
use Rattle.instructions.specs.declared.instruction.Instruction.{Instruction}
use Rattle.ordering.specs.Constraints.{Feeds, Depends, SameCell, NoStoreBetween, NearestStore, SAMemSt, SAStLd, SALdLd, BrSt, AddrSt, FenceOrd, GAM}
use Rattle.soundness.proofs.Worlds.{known, known_cells}

-- The constraints but for SALdLd.
pub data Six (ins : ℕ → Instruction) (cell : ℕ → Option ℕ) (i j : ℕ) : Type 0 where
  sa_mem_st : SAMemSt ins cell i j → Six ins cell i j
  sa_st_ld : SAStLd ins cell i j → Six ins cell i j
  reg_raw : Depends ins cell i j → Six ins cell i j
  br_st : BrSt ins cell i j → Six ins cell i j
  addr_st : AddrSt ins cell i j → Six ins cell i j
  fence_ord : FenceOrd ins cell i j → Six ins cell i j

pub gam_split : (ins : ℕ → Instruction) (cell : ℕ → Option ℕ) (i j : ℕ) → GAM ins cell i j → Six ins cell i j ⊎ SALdLd ins cell i j
gam_split ins cell i j (GAM.sa_mem_st h) = inl (Six.sa_mem_st h)
gam_split ins cell i j (GAM.sa_st_ld h) = inl (Six.sa_st_ld h)
gam_split ins cell i j (GAM.sa_ld_ld h) = inr h
gam_split ins cell i j (GAM.reg_raw h) = inl (Six.reg_raw h)
gam_split ins cell i j (GAM.br_st h) = inl (Six.br_st h)
gam_split ins cell i j (GAM.addr_st h) = inl (Six.addr_st h)
gam_split ins cell i j (GAM.fence_ord h) = inl (Six.fence_ord h)

-- Everything kept runs forward.
pub depends_earlier : (ins : ℕ → Instruction) (cell : ℕ → Option ℕ) (i j : ℕ) → Depends ins cell i j → i < j
depends_earlier ins cell i j (inl d) = d.writer.below
depends_earlier ins cell i j (inr d) = d.writer.below

pub fence_earlier : (ins : ℕ → Instruction) (cell : ℕ → Option ℕ) (i j : ℕ) → FenceOrd ins cell i j → i < j
fence_earlier ins cell i j (FenceOrd.before_fence X b e f) = b
fence_earlier ins cell i j (FenceOrd.after_fence Y b e f) = b

pub six_earlier : (ins : ℕ → Instruction) (cell : ℕ → Option ℕ) (i j : ℕ) → Six ins cell i j → i < j
six_earlier ins cell i j (Six.sa_mem_st h) = h.earlier
six_earlier ins cell i j (Six.sa_st_ld h) = omega (arith, h.store.earlier, depends_earlier ins cell i h.nearest h.depends)
six_earlier ins cell i j (Six.reg_raw h) = depends_earlier ins cell i j h
six_earlier ins cell i j (Six.br_st h) = h.earlier
six_earlier ins cell i j (Six.addr_st h) = omega (arith, h.earlier, h.depends.feeds.writer.below)
six_earlier ins cell i j (Six.fence_ord h) = fence_earlier ins cell i j h

-- A cell number and the cell that it stands for.
pub known_some : (a b : ℕ) → known a ≡ Some b → a ≡ suc b
unfolding known
known_some zero b e = absurd (let z : ◌≡◌ {A = ℕ} 0 1 = cc in omega arith)
known_some (suc a) b e = let z : a ≡ b = cc in ap suc z

pub some_known : (a b : ℕ) → a ≡ suc b → known a ≡ Some b
unfolding known
some_known a b e = rw e

module _ (ins : ℕ → Instruction) (A : ℕ → ℕ) where
  -- One cell, by its number.
  pub same_to : (i j : ℕ) → SameCell ins (known_cells A) i j → (A i ≡ A j) × (0 < A j)
  same_to i j s = let p = known_some (A i) s.number s.first in let q = known_some (A j) s.number s.second in (omega arith, omega arith)

  pub same_from : (i j : ℕ) → A i ≡ A j → 0 < A j → SameCell ins (known_cells A) i j
  same_from i j e z = go (A j) refl z
    where
      go : (a : ℕ) → A j ≡ a → 0 < a → SameCell ins (known_cells A) i j
      go zero q b = absurd (omega arith)
      go (suc a) q b = record { number = a; first = some_known (A i) a (e ∙ q); second = some_known (A j) a q }

  -- No store between j and k to the cell a, by its number.
  abbrev pub NoStore : ℕ → ℕ → ℕ → Type 0
  NoStore a j k = (m : ℕ) → j < m → m < k → stores (ins m) ≡ true → A m ≡ a → ⊥

  pub none_to : (j k : ℕ) → 0 < A k → NoStoreBetween ins (known_cells A) j k → NoStore (A k) j k
  none_to j k z h m b c st e = h m b c st (same_from m k e z)

  pub none_from : (j k : ℕ) → NoStore (A k) j k → NoStoreBetween ins (known_cells A) j k
  none_from j k h m b c st s = h m b c st (same_to m k s).0

  -- s is the nearest earlier store to the known cell of k, by its number.
  pub record Near (s k : ℕ) : Type 0 where
    pub before : s < k
    pub store : stores (ins s) ≡ true
    pub known : 0 < A k
    pub same : A s ≡ A k
    pub none : NoStore (A k) s k

  pub near_to : (s k : ℕ) → NearestStore ins (known_cells A) s k → Near s k
  near_to s k h = let e = same_to s k h.same in
      record { before = h.earlier; store = h.store; known = e.1; same = e.0; none = none_to s k e.1 h.none_between }

  pub near_from : (s k : ℕ) → Near s k → NearestStore ins (known_cells A) s k
  near_from s k h = record { earlier = h.before; store = h.store; same = same_from s k h.same h.known; none_between = none_from s k h.none }

-- What an operand is fed by does not turn on cells.
pub refeed : {ins : ℕ → Instruction} {cell cell' : ℕ → Option ℕ} {o : Option ℕ} {j k : ℕ} → Feeds ins cell o j k → Feeds ins cell' o j k
refeed d = record { register = d.register; reads = d.reads; writer = d.writer }

pub redepend : {ins : ℕ → Instruction} {cell cell' : ℕ → Option ℕ} {j k : ℕ} → Depends ins cell j k → Depends ins cell' j k
redepend (inl d) = inl (refeed d)
redepend (inr d) = inr (refeed d)

pub refence : {ins : ℕ → Instruction} {cell cell' : ℕ → Option ℕ} {j k : ℕ} → FenceOrd ins cell j k → FenceOrd ins cell' j k
refence (FenceOrd.before_fence X b e f) = FenceOrd.before_fence X b e f
refence (FenceOrd.after_fence Y b e f) = FenceOrd.after_fence Y b e f
