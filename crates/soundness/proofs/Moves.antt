-- The rules on buffers as functions of the position: guard and action of each, after the machine's own.
use Rattle.std.proofs.Common.{◌≡◌, ℕ, suc, ◌%◌, ◌<◌, ◌≤◌, Bool, true, false, ◌≢◌, ◌⊎◌, List, [], ◌∷◌, ◌++◌, Some, None, Option}
use Rattle.instructions.specs.Effects.{arithmetic_result, address_sum, data_sum, next_place}
use Rattle.instructions.specs.Kinds.{loads, stores, access, computes, branches, first_operand, second_operand}
use Rattle.instructions.specs.declared.instruction.Instruction.{Instruction}
use Rattle.memory.specs.declared.cell.Mark.{Mark}
use Rattle.memory.specs.declared.cell.Mark.TheVariants as marks
use Rattle.witness.specs.declared.record.Access.{Access}
use Rattle.ordering.specs.Constraints.{Feeds, Depends, FenceOrd}
use Rattle.machine.specs.Steps.{stays, only}
use Rattle.soundness.proofs.Worlds.{Row, Memory, World, known_cells, cell, word, operand}

-- f' is f but for v at i.
abbrev pub Changed : {X : Type 0} → (ℕ → X) → (ℕ → X) → ℕ → X → Type 0
Changed f f' i v = (j : ℕ) → ((j ≡ i) × (f' j ≡ v)) ⊎ ((j ≢ i) × (f' j ≡ f j))

-- f' is f but for v at i, where f was 0.
abbrev pub Upd : (ℕ → ℕ) → (ℕ → ℕ) → ℕ → ℕ → Type 0
Upd f f' i v = (j : ℕ) → ((j ≡ i) × (f j ≡ 0) × (f' j ≡ v)) ⊎ ((j ≢ i) × (f' j ≡ f j))

-- The registers that the operand reads come from entries that are done.
abbrev pub OperandReady : Row → Option ℕ → ℕ → Type 0
OperandReady x o i = (j : ℕ) → Feeds x.instruction (known_cells (cell x)) o j i → 0 < x.time j

-- What FenceOrd keeps before the entry is done.
abbrev pub FencesDone : Row → ℕ → Type 0
FencesDone x i = (j : ℕ) → FenceOrd x.instruction (known_cells (cell x)) j i → 0 < x.time j

-- The first and the second operand of the entry at i.
abbrev pub first_value : Row → ℕ → ℕ
first_value x i = operand x.instruction x.value (first_operand (x.instruction i)) i

abbrev pub second_value : Row → ℕ → ℕ
second_value x i = operand x.instruction x.value (second_operand (x.instruction i)) i

-- Rule 1: the entry at size is new, of the code at the counter; those before it stay.
pub record Fetched (code : ℕ → Instruction) (end : ℕ) (x x' : Row) : Type 0 where
  pub size : x'.size ≡ suc x.size
  pub instruction : (j : ℕ) → j < x.size → x'.instruction j ≡ x.instruction j
  pub place : (j : ℕ) → j ≤ x.size → x'.place j ≡ x.place j
  pub address : (j : ℕ) → j < x.size → x'.address j ≡ x.address j
  pub datum : (j : ℕ) → j < x.size → x'.datum j ≡ x.datum j
  pub time : (j : ℕ) → j < x.size → x'.time j ≡ x.time j
  pub value : (j : ℕ) → j < x.size → x'.value j ≡ x.value j
  pub mark : (j : ℕ) → j < x.size → x'.mark j ≡ x.mark j
  pub rest : (j : ℕ) → x.size ≤ j → x'.time j ≡ 0
  pub no_address : x'.address x.size ≡ None
  pub no_datum : x'.datum x.size ≡ None
  pub inside : x.place x.size < end
  pub new : x'.instruction x.size ≡ code (x.place x.size)
  pub next : branches (x'.instruction x.size) ≡ false → (v : ℕ) →
      x'.place (suc x.size) ≡ next_place (x'.instruction x.size) (x.place x.size) v

-- What rules 2, 3 and 4 leave of the size and the places: all, or, at a branch, the entries up to it.
pub data Turned (x : Row) (i n' : ℕ) (P' : ℕ → ℕ) : Type 0 where
  keeps : n' ≡ x.size → ((j : ℕ) → P' j ≡ x.place j) → Turned x i n' P'
  cuts : n' ≡ suc i → branches (x.instruction i) ≡ true → ((j : ℕ) → j ≤ i → P' j ≡ x.place j) → Turned x i n' P'

-- Rules 2, 3 and 4: the entry at i is no access; its operands are ready and its fences done.
pub record Plain (x : Row) (i c n' : ℕ) (P' T' V' : ℕ → ℕ) : Type 0 where
  pub within : i < x.size
  pub quiet : access (x.instruction i) ≡ true → ⊥
  pub ready : (j : ℕ) → Depends x.instruction (known_cells (cell x)) j i → 0 < x.time j
  pub fence : FencesDone x i
  pub now : Upd x.time T' i c
  pub others : (j : ℕ) → j ≢ i → V' j ≡ x.value j
  pub comes_to : computes (x.instruction i) ≡ true → V' i ≡ arithmetic_result (x.instruction i) (first_value x i) (second_value x i)
  pub next : branches (x.instruction i) ≡ true → P' (suc i) ≡ next_place (x.instruction i) (x.place i) (first_value x i)
  pub turned : Turned x i n' P'

-- Rule 6.
pub record Datum (x : Row) (i d : ℕ) (D' : ℕ → Option ℕ) : Type 0 where
  pub within : i < x.size
  pub is : stores (x.instruction i) ≡ true
  pub wanting : x.datum i ≡ None
  pub ready : OperandReady x (second_operand (x.instruction i)) i
  pub comes_to : d ≡ data_sum (x.instruction i) (second_value x i)
  pub now : Changed x.datum D' i (Some d)

-- Rule 7.
pub record Store (x : Row) (i c : ℕ) (T' : ℕ → ℕ) : Type 0 where
  pub within : i < x.size
  pub is : stores (x.instruction i) ≡ true
  pub plain : loads (x.instruction i) ≡ true → ⊥
  pub known : 0 < cell x i
  pub given : 0 < word x i
  pub branch : (j : ℕ) → j < i → branches (x.instruction j) ≡ true → 0 < x.time j
  pub located : (j : ℕ) → j < i → access (x.instruction j) ≡ true → 0 < cell x j
  pub same : (j : ℕ) → j < i → access (x.instruction j) ≡ true → cell x j ≡ cell x i → 0 < x.time j
  pub fence : FencesDone x i
  pub now : Upd x.time T' i c

-- Rule 5 but for where the value comes from.
pub record Load (x : Row) (i c : ℕ) (T' : ℕ → ℕ) : Type 0 where
  pub within : i < x.size
  pub is : loads (x.instruction i) ≡ true
  pub plain : stores (x.instruction i) ≡ true → ⊥
  pub second : OperandReady x (second_operand (x.instruction i)) i
  pub known : 0 < cell x i
  pub fence : FencesDone x i
  pub now : Upd x.time T' i c

-- Older accesses of some kind to the cell of the entry at i, from position m on, are done.
abbrev pub OlderDone : (Instruction → Bool) → Row → ℕ → ℕ → Type 0
OlderDone kind x m i = (j : ℕ) → m ≤ j → j < i → kind (x.instruction j) ≡ true → cell x j ≡ cell x i → 0 < x.time j

-- What the load at i of processor p is given: the cell, if no older access of the kind to it is not done; or the data of the youngest that is not done, a store.
pub data Given (kind : Instruction → Bool) (x : Row) (μ : Memory) (p i v : ℕ) (m : Mark) : Type 0 where
  memory : (b : ℕ) → cell x i ≡ suc b → OlderDone kind x 0 i → v ≡ μ.value b → m ≡ μ.mark b → Given kind x μ p i v m
  bypass : (j : ℕ) → j < i → stores (x.instruction j) ≡ true → (loads (x.instruction j) ≡ true → ⊥) → cell x j ≡ cell x i → x.time j ≡ 0 →
      word x j ≡ suc v → OlderDone kind x (suc j) i → m ≡ marks.Store p j → Given kind x μ p i v m

-- m is the first younger access to the cell a.
pub record FirstTo (x : Row) (a i m : ℕ) : Type 0 where
  pub after : i < m
  pub within : m < x.size
  pub is : access (x.instruction m) ≡ true
  pub same : cell x m ≡ a
  pub none : (k : ℕ) → i < k → k < m → access (x.instruction k) ≡ true → cell x k ≡ a → ⊥

-- Where rule 8 cuts: at the first younger access to the cell, if that is a done load.
pub data Cut (x : Row) (a i n' : ℕ) : Type 0 where
  keeps : n' ≡ x.size → ((m : ℕ) → FirstTo x a i m → loads (x.instruction m) ≡ true → 0 < x.time m → ⊥) → Cut x a i n'
  cuts : FirstTo x a i n' → loads (x.instruction n') ≡ true → 0 < x.time n' → Cut x a i n'

-- Rule 8 but for what goes.
pub record Address (x : Row) (i a : ℕ) (A' : ℕ → Option ℕ) : Type 0 where
  pub within : i < x.size
  pub is : access (x.instruction i) ≡ true
  pub wanting : x.address i ≡ None
  pub ready : OperandReady x (first_operand (x.instruction i)) i
  pub comes_to : a ≡ address_sum (x.instruction i) (first_value x i)
  pub now : Changed x.address A' i (Some a)

-- The row after rules 2 to 4, rule 5, rule 6, rule 7, rule 8.
abbrev pub plainly : Row → ℕ → (ℕ → ℕ) → (ℕ → ℕ) → (ℕ → ℕ) → Row
plainly x n' P' T' V' = record {
  size = n';
  instruction = x.instruction;
  place = P';
  address = x.address;
  datum = x.datum;
  time = T';
  value = V';
  mark = x.mark;
}

abbrev pub loaded : Row → (ℕ → ℕ) → (ℕ → ℕ) → (ℕ → Mark) → Row
loaded x T' V' M' = record {
  size = x.size;
  instruction = x.instruction;
  place = x.place;
  address = x.address;
  datum = x.datum;
  time = T';
  value = V';
  mark = M';
}

abbrev pub supplied : Row → (ℕ → Option ℕ) → Row
supplied x D' = record {
  size = x.size;
  instruction = x.instruction;
  place = x.place;
  address = x.address;
  datum = D';
  time = x.time;
  value = x.value;
  mark = x.mark;
}

abbrev pub stored : Row → (ℕ → ℕ) → Row
stored x T' = loaded x T' x.value x.mark

abbrev pub addressed : Row → ℕ → (ℕ → Option ℕ) → Row
addressed x n' A' = record {
  size = n';
  instruction = x.instruction;
  place = x.place;
  address = A';
  datum = x.datum;
  time = x.time;
  value = x.value;
  mark = x.mark;
}

-- One processor's buffer is replaced.
abbrev pub Put : (ℕ → Row) → (ℕ → Row) → ℕ → Row → Type 0
Put s s' p x = (q : ℕ) → ((q ≡ p) × (s' q ≡ x)) ⊎ ((q ≢ p) × (s' q ≡ s q))

-- The memory order after a removal of processor p's entries from n' on, of n; where none goes it may be as it was.
pub data Reordered (p n n' : ℕ) (l l' : List Access) : Type 0 where
  whole : n' ≡ n → l' ≡ l → Reordered p n n' l l'
  shortened : l' ≡ only (stays p n') l → Reordered p n n' l l'

-- A store at i of processor p writes its cell.
pub record Written (x : Row) (μ μ' : Memory) (p i : ℕ) : Type 0 where
  pub here : (b : ℕ) → cell x i ≡ suc b → (μ'.mark b ≡ marks.Store p i) × (word x i ≡ suc (μ'.value b))
  pub others : (b : ℕ) → (cell x i ≡ suc b → ⊥) → (μ'.mark b ≡ μ.mark b) × (μ'.value b ≡ μ.value b)

-- A load at i of processor p: what it is given, the others as they were.
pub record Taken (x : Row) (μ : Memory) (p i : ℕ) (V' : ℕ → ℕ) (M' : ℕ → Mark) : Type 0 where
  pub given : Given access x μ p i (V' i) (M' i)
  pub others : (j : ℕ) → j ≢ i → (V' j ≡ x.value j) × (M' j ≡ x.mark j)

-- One step of a run: code and end are each processor's instructions by the place and the place after the last.
pub data Step (code : ℕ → ℕ → Instruction) (end : ℕ → ℕ) (w w' : World) : Type 0 where
  fetch : (p : ℕ) (x' : Row) → Put w.rows w'.rows p x' → Fetched (code p) (end p) (w.rows p) x' →
      w'.memory ≡ w.memory → w'.order ≡ w.order → w'.clock ≡ w.clock → Step code end w w'
  plain : (p i n' : ℕ) (P' T' V' : ℕ → ℕ) → Put w.rows w'.rows p (plainly (w.rows p) n' P' T' V') →
      Plain (w.rows p) i w.clock n' P' T' V' →
      w'.memory ≡ w.memory → Reordered p (w.rows p).size n' w.order w'.order → w'.clock ≡ suc w.clock → Step code end w w'
  datum : (p i d : ℕ) (D' : ℕ → Option ℕ) → Put w.rows w'.rows p (supplied (w.rows p) D') → Datum (w.rows p) i d D' →
      w'.memory ≡ w.memory → w'.order ≡ w.order → w'.clock ≡ w.clock → Step code end w w'
  load : (p i : ℕ) (T' V' : ℕ → ℕ) (M' : ℕ → Mark) → Put w.rows w'.rows p (loaded (w.rows p) T' V' M') →
      Load (w.rows p) i w.clock T' → Taken (w.rows p) w.memory p i V' M' →
      w'.memory ≡ w.memory → w'.order ≡ w.order ++ record { processor = p; position = i } ∷ [] → w'.clock ≡ suc w.clock → Step code end w w'
  store : (p i : ℕ) (T' : ℕ → ℕ) → Put w.rows w'.rows p (stored (w.rows p) T') →
      Store (w.rows p) i w.clock T' → Written (w.rows p) w.memory w'.memory p i →
      w'.order ≡ w.order ++ record { processor = p; position = i } ∷ [] → w'.clock ≡ suc w.clock → Step code end w w'
  address : (p i a n' : ℕ) (A' : ℕ → Option ℕ) → Put w.rows w'.rows p (addressed (w.rows p) n' A') →
      Address (w.rows p) i a A' → Cut (w.rows p) (suc (a % 16)) i n' →
      w'.memory ≡ w.memory → Reordered p (w.rows p).size n' w.order w'.order → w'.clock ≡ w.clock → Step code end w w'
