-- A state of the rebuild and the witness, once t accesses of the order were carried out: the whole paths stand in the buffers, and what was done is what the witness says.
use Rattle.std.proofs.Common.{◌≡◌, ℕ, ◌<◌, true, cond, ◌&&◌, eqb, ◌↔◌, length, get_or, take, is_some}
use Rattle.memory.specs.Cells.{zero_cell}
use Rattle.memory.specs.declared.cell.Cell.{Cell}
use Rattle.memory.specs.declared.cell.Mark.{Mark}
use Rattle.memory.specs.declared.cell.Mark.TheVariants as mark
use Rattle.question.specs.Litmus.{Litmus}
use Rattle.search.specs.Search.{nearest}
use Rattle.witness.specs.Execution.{Execution}
use Rattle.witness.specs.declared.record.Source.{Source}
use Rattle.events.specs.Sources.{path_at, source_at, events}
use Rattle.ordering.specs.Constraints as constraints
use Rattle.ordering.specs.Rules.{instruction_of, cell_of}
use Rattle.checker.specs.Fixed.{stores_to, cell_from}
use Rattle.checker.specs.Terms.{event, AccessAt, LoadAt}
use Rattle.checker.specs.Tests.{ordered, rank}
use Rattle.machine.specs.Fires.{buffer, entry}
use Rattle.machine.specs.State.{State}
use Rattle.reachable.specs.Invariant.{Invariant}
use Rattle.rules.specs.declared.entry.Entry.{Entry}

-- The mark that a source record names; 255 and 255 name the start.
abbrev pub named_mark : Source → Mark
named_mark r = cond (eqb r.processor 255 && eqb r.position 255) mark.Start (mark.Store r.processor r.position)

-- The entry has the value and the mark that the source record names.
pub record SourcedAsStated (e : Entry) (r : Source) : Type 0 where
  pub value : e.value ≡ r.value
  pub mark : e.mark ≡ named_mark r

module _ (q : Litmus) (w : Execution) where
  -- Cell a once the first t accesses of the order are done.
  abbrev pub cell_after : ℕ → ℕ → Cell
  cell_after t a = cell_from q w a (nearest (λ k. stores_to q w a (ordered q w k)) t)

  -- m is the nearest earlier store to the cell of position i of processor p.
  abbrev pub StoreBefore : ℕ → ℕ → ℕ → Type 0
  StoreBefore p m i = constraints.NearestStore (instruction_of (events q w p)) (cell_of (events q w p)) m i

  -- m and i are loads of one cell, with no store to it between.
  abbrev pub LoadBefore : ℕ → ℕ → ℕ → Type 0
  LoadBefore p m i = constraints.SALdLd (instruction_of (events q w p)) (cell_of (events q w p)) m i

  -- What a done load has settled, so that no address made known later takes it back: the nearest earlier store to its cell has its address, and the loads of its cell since are done.
  pub record Safe (s : State) (p i : ℕ) : Type 0 where
    pub store : (m : ℕ) → StoreBefore p m i → is_some (entry s p m).address ≡ true
    pub older_loads : (m : ℕ) → LoadBefore p m i → (entry s p m).done ≡ true

  -- The state belongs to the witness, t accesses of its order being carried out.
  pub record Related (t : ℕ) (s : State) : Type 0 where
    pub invariant : Invariant q s
    pub whole : (p : ℕ) → length (buffer s p) ≡ length (path_at w p)
    pub places : (p i : ℕ) → i < length (path_at w p) → (entry s p i).place ≡ (event q w p i).place
    pub nexts : (p i : ℕ) → i < length (path_at w p) → (entry s p i).next ≡ (event q w p i).next
    pub sourced : (p i : ℕ) → LoadAt q w p i → (entry s p i).done ≡ true → SourcedAsStated (entry s p i) (source_at q w p i)
    pub done_is : (p i : ℕ) → AccessAt q w p i → ((entry s p i).done ≡ true) ↔ (rank q w p i < t)
    pub order : s.order ≡ take t w.order
    pub cells : (a : ℕ) → a < 16 → get_or s.cells a zero_cell ≡ cell_after t a
    pub safe : (p i : ℕ) → LoadAt q w p i → (entry s p i).done ≡ true → Safe s p i
