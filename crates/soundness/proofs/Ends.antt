-- What holds of a finished world: the axioms on buffers as functions of the position.
use Rattle.std.proofs.Common.{◌≡◌, ℕ, suc, ◌<◌, true, false, ◌⊎◌, List, Some}
use Rattle.instructions.specs.Effects.{arithmetic_result, address_sum, data_sum, next_place}
use Rattle.instructions.specs.Kinds.{loads, stores, access, computes, branches}
use Rattle.instructions.specs.declared.instruction.Instruction.{Instruction}
use Rattle.memory.specs.declared.cell.Mark.{Mark}
use Rattle.memory.specs.declared.cell.Mark.TheVariants as marks
use Rattle.witness.specs.declared.record.Access.{Access}
use Rattle.ordering.specs.Closure.{Closure}
use Rattle.ordering.specs.Constraints.{GAM}
use Rattle.checker.specs.Terms.{access_at, Stands, Precedes}
use Rattle.soundness.proofs.Worlds.{Row, World, known_cells, cell, word, begin}
use Rattle.soundness.proofs.Moves.{Step, first_value, second_value}

-- A run from a world to another.
pub data Run (code : ℕ → ℕ → Instruction) (end : ℕ → ℕ) (w : World) : World → Type 0 where
  begun : Run code end w w
  then : {w' w'' : World} → Run code end w w' → Step code end w' w'' → Run code end w w''

-- Every entry is done.
abbrev pub Finished : World → Type 0
Finished w = (p k : ℕ) → k < (w.rows p).size → 0 < (w.rows p).time k

-- The path of a buffer so far: every done entry is what its operands make it, and every known address and data are.
pub record Path (code : ℕ → Instruction) (end : ℕ) (x : Row) : Type 0 where
  pub from : x.place 0 ≡ 0
  pub inside : (k : ℕ) → k < x.size → x.place k < end
  pub coded_at : (k : ℕ) → k < x.size → x.instruction k ≡ code (x.place k)
  pub goes : (k : ℕ) → k < x.size → branches (x.instruction k) ≡ false → (v : ℕ) → x.place (suc k) ≡ next_place (x.instruction k) (x.place k) v
  pub turns : (k : ℕ) → k < x.size → 0 < x.time k → x.place (suc k) ≡ next_place (x.instruction k) (x.place k) (first_value x k)
  pub computed : (k : ℕ) → k < x.size → 0 < x.time k → computes (x.instruction k) ≡ true → x.value k ≡ arithmetic_result (x.instruction k) (first_value x k) (second_value x k)
  pub addressed : (k a : ℕ) → k < x.size → x.address k ≡ Some a → a ≡ address_sum (x.instruction k) (first_value x k)
  pub supplied : (k d : ℕ) → k < x.size → x.datum k ≡ Some d → d ≡ data_sum (x.instruction k) (second_value x k)

-- The moment at which an access was done.
abbrev pub moment : (ℕ → Row) → Access → ℕ
moment s a = (s a.processor).time a.position

-- The list has the done accesses, each once, by the moments at which they were done.
pub record Listed (s : ℕ → Row) (l : List Access) : Type 0 where
  pub sorted : (i j : ℕ) (a b : Access) → i < j → Stands l i a → Stands l j b → moment s a < moment s b
  pub nothing_else : (i : ℕ) (a : Access) → Stands l i a →
      (a.position < (s a.processor).size) × (access ((s a.processor).instruction a.position) ≡ true) × (0 < moment s a)
  pub complete : (p k : ℕ) → k < (s p).size → access ((s p).instruction k) ≡ true → 0 < (s p).time k → (i : ℕ) × Stands l i (access_at p k)

-- InstOrder on the buffers.
abbrev pub InstOrder : (ℕ → Row) → List Access → Type 0
InstOrder s l =
    (p j k : ℕ) → k < (s p).size → access ((s p).instruction j) ≡ true → access ((s p).instruction k) ≡ true →
    Closure (GAM (s p).instruction (known_cells (cell (s p)))) j k → Precedes l (access_at p j) (access_at p k)

-- The store a precedes the load k of p in the order, or in its own buffer.
pub record Candidate (s : ℕ → Row) (l : List Access) (p k : ℕ) (a : Access) : Type 0 where
  pub within : a.position < (s a.processor).size
  pub store : stores ((s a.processor).instruction a.position) ≡ true
  pub same : cell (s a.processor) a.position ≡ cell (s p) k
  pub sooner : Precedes l a (access_at p k) ⊎ ((a.processor ≡ p) × (a.position < k))

-- The mark is the youngest of them by the order, or the start if there is none.
pub data Youngest (s : ℕ → Row) (l : List Access) (p k : ℕ) : Mark → Type 0 where
  start : ((a : Access) → Candidate s l p k a → ⊥) → Youngest s l p k marks.Start
  store : (q j : ℕ) → Candidate s l p k (access_at q j) →
      ((a : Access) → Candidate s l p k a → (a ≡ access_at q j) ⊎ Precedes l a (access_at q j)) → Youngest s l p k (marks.Store q j)

-- LoadValue on the buffers.
abbrev pub LoadValue : (ℕ → Row) → List Access → Type 0
LoadValue s l = (p k : ℕ) → k < (s p).size → loads ((s p).instruction k) ≡ true → Youngest s l p k ((s p).mark k)

-- The value at a mark, of a cell.
pub data Marked (init : ℕ → ℕ) (s : ℕ → Row) (b : ℕ) : Mark → ℕ → Type 0 where
  start : Marked init s b marks.Start (init b)
  store : (q j v : ℕ) → j < (s q).size → stores ((s q).instruction j) ≡ true → cell (s q) j ≡ suc b → (s q).datum j ≡ Some v → Marked init s b (marks.Store q j) v

-- A store to the cell b in the order.
pub record StoreTo (s : ℕ → Row) (l : List Access) (b : ℕ) (a : Access) : Type 0 where
  pub within : a.position < (s a.processor).size
  pub store : stores ((s a.processor).instruction a.position) ≡ true
  pub same : cell (s a.processor) a.position ≡ suc b

-- The mark is the last store to the cell in the order, or the start if there is none.
pub data LastStore (s : ℕ → Row) (l : List Access) (b : ℕ) : Mark → Type 0 where
  start : ((a : Access) → StoreTo s l b a → ⊥) → LastStore s l b marks.Start
  store : (q j : ℕ) → StoreTo s l b (access_at q j) →
      ((a : Access) → StoreTo s l b a → (a ≡ access_at q j) ⊎ Precedes l a (access_at q j)) → LastStore s l b (marks.Store q j)

-- All that holds of a finished world.
pub record Ended (code : ℕ → ℕ → Instruction) (end : ℕ → ℕ) (init : ℕ → ℕ) (w : World) : Type 0 where
  pub paths : (p : ℕ) → Path (code p) (end p) (w.rows p)
  pub located : (p k : ℕ) → k < (w.rows p).size → access ((w.rows p).instruction k) ≡ true → 0 < cell (w.rows p) k
  pub given : (p k : ℕ) → k < (w.rows p).size → stores ((w.rows p).instruction k) ≡ true → 0 < word (w.rows p) k
  pub listed : Listed w.rows w.order
  pub inst_order : InstOrder w.rows w.order
  pub load_value : LoadValue w.rows w.order
  pub sourced : (p k b : ℕ) → k < (w.rows p).size → loads ((w.rows p).instruction k) ≡ true → cell (w.rows p) k ≡ suc b →
      Marked init w.rows b ((w.rows p).mark k) ((w.rows p).value k)
  pub cells : (b : ℕ) → LastStore w.rows w.order b (w.memory.mark b) × Marked init w.rows b (w.memory.mark b) (w.memory.value b)

-- Every finished run ends so.
abbrev pub RunsEndWell : Type 0
RunsEndWell =
    (code : ℕ → ℕ → Instruction) (end : ℕ → ℕ) (ins : ℕ → ℕ → Instruction) (init : ℕ → ℕ) (w : World) →
    Run code end (begin ins init) w → Finished w → Ended code end init w
