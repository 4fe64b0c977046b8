-- The seven ordering constraints of GAM, after Definition 6 of "Constructing a Weak Memory Model", and which pairs they keep.
-- A row of instructions with the cell of each access where that is known: a whole path, or a buffer of the machine.
use Rattle.std.specs.Prelude.{◌≡◌, ℕ, ◌<◌, true, ◌⊎◌, Some, Option}
use Rattle.instructions.specs.Kinds.{loads, stores, access, branches, of_type, fence_from, fence_to, first_operand, second_operand, writes}
use Rattle.instructions.specs.declared.instruction.AccessType.{AccessType}
use Rattle.instructions.specs.declared.instruction.Instruction.{Instruction}
use Rattle.search.specs.Search.{Nearest}

module _ (instruction : ℕ → Instruction) (cell : ℕ → Option ℕ) where
  -- I1 at i is the nearest earlier writer of the register that is the operand of I2 at j.
  pub record Feeds (operand : Option ℕ) (i j : ℕ) : Type 0 where
    pub register : ℕ
    pub reads : operand ≡ Some register
    pub writer : Nearest (λ m. writes (instruction m) register) j i

  -- I2 depends on I1: I1 is the nearest earlier writer of a register that I2 reads.
  abbrev pub Depends : ℕ → ℕ → Type 0
  Depends i j = Feeds (first_operand (instruction j)) i j ⊎ Feeds (second_operand (instruction j)) i j

  -- I2, an access, depends on I1 for its address.
  pub record DependsForAddress (i j : ℕ) : Type 0 where
    pub accesses : access (instruction j) ≡ true
    pub feeds : Feeds (first_operand (instruction j)) i j

  -- Both are known to be to one cell.
  pub record SameCell (i j : ℕ) : Type 0 where
    pub number : ℕ
    pub first : cell i ≡ Some number
    pub second : cell j ≡ Some number

  -- No store between i and j is known to be to the cell of j.
  abbrev pub NoStoreBetween : ℕ → ℕ → Type 0
  NoStoreBetween i j = (m : ℕ) → i < m → m < j → stores (instruction m) ≡ true → SameCell m j → ⊥

  -- s is the nearest earlier store that is known to be to the cell of j.
  pub record NearestStore (s j : ℕ) : Type 0 where
    pub earlier : s < j
    pub store : stores (instruction s) ≡ true
    pub same : SameCell s j
    pub none_between : NoStoreBetween s j

  -- An access, then a store to the same cell.
  pub record SAMemSt (i j : ℕ) : Type 0 where
    pub earlier : i < j
    pub accesses : access (instruction i) ≡ true
    pub store : stores (instruction j) ≡ true
    pub same : SameCell i j

  -- A load, and what the nearest earlier store to its cell depends on.
  pub record SAStLd (i j : ℕ) : Type 0 where
    pub load : loads (instruction j) ≡ true
    pub nearest : ℕ
    pub store : NearestStore nearest j
    pub depends : Depends i nearest

  -- Two loads of one cell, with no store to it between them.
  pub record SALdLd (i j : ℕ) : Type 0 where
    pub earlier : i < j
    pub first_load : loads (instruction i) ≡ true
    pub second_load : loads (instruction j) ≡ true
    pub same : SameCell i j
    pub none_between : NoStoreBetween i j

  -- I2 depends on I1.
  abbrev pub RegRAW : ℕ → ℕ → Type 0
  RegRAW i j = Depends i j

  -- A branch, then a store.
  pub record BrSt (i j : ℕ) : Type 0 where
    pub earlier : i < j
    pub branch : branches (instruction i) ≡ true
    pub store : stores (instruction j) ≡ true

  -- A store, and what an access before it depends on for its address.
  pub record AddrSt (i j : ℕ) : Type 0 where
    pub store : stores (instruction j) ≡ true
    pub middle : ℕ
    pub earlier : middle < j
    pub depends : DependsForAddress i middle

  -- An access of type X then a FenceXY, or a FenceXY then an access of type Y.
  pub data FenceOrd (i j : ℕ) : Type 0 where
    before_fence : (X : AccessType) → i < j → of_type X (instruction i) ≡ true → fence_from X (instruction j) ≡ true → FenceOrd i j
    after_fence : (Y : AccessType) → i < j → fence_to Y (instruction i) ≡ true → of_type Y (instruction j) ≡ true → FenceOrd i j

  -- GAM keeps I1 directly before I2 by one of the seven constraints.
  pub data GAM (i j : ℕ) : Type 0 where
    sa_mem_st : SAMemSt i j → GAM i j
    sa_st_ld : SAStLd i j → GAM i j
    sa_ld_ld : SALdLd i j → GAM i j
    reg_raw : RegRAW i j → GAM i j
    br_st : BrSt i j → GAM i j
    addr_st : AddrSt i j → GAM i j
    fence_ord : FenceOrd i j → GAM i j

  -- Sequential consistency keeps every two accesses in their order.
  pub record SC (i j : ℕ) : Type 0 where
    pub earlier : i < j
    pub first : access (instruction i) ≡ true
    pub second : access (instruction j) ≡ true
