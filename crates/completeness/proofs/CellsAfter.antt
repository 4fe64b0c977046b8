-- What one access more of the order does to the cells that the witness fixes.
use Rattle.std.proofs.Common.{◌≡◌, ℕ, suc, ◌<◌, Bool, true, false, cond, eqb, ltb, length, get_or, set, Some, sym, ap, ◌∙◌, subst, inl, inr, arith}
use Rattle.std.proofs.lemmas.List.{get_or-set_same, get_or-set_other}
use Rattle.std.proofs.lemmas.Bool.{and_parts, and_from, both_ways, cases_eq, eq-eqb, eqb-true, ltb-true, lt-ltb}
use Rattle.instructions.specs.Kinds.{stores}
use Rattle.memory.specs.Cells.{zero_cell, written}
use Rattle.memory.specs.declared.cell.Cell.{Cell}
use Rattle.memory.specs.declared.cell.Mark.TheVariants as mark
use Rattle.question.specs.Litmus.{Litmus}
use Rattle.search.specs.Search.{nearest}
use Rattle.witness.specs.Execution.{Execution}
use Rattle.witness.specs.declared.record.Access.{Access}
use Rattle.events.specs.Sources.{path_at}
use Rattle.checker.specs.Fixed.{stores_to, cell_from, left_by}
use Rattle.checker.specs.Terms.{access_at, event, instruction, cell, StoreAt}
use Rattle.checker.specs.Tests.{ordered}
use Rattle.checker_laws.proofs.Bounds.{not_passing}
use Rattle.machine.specs.State.{State}
use Rattle.completeness.proofs.Related.{Related, cell_after}

module _ (q : Litmus) (w : Execution) where
  -- The test for a store of the paths to a cell.
  pub stores_to_is : (a p i : ℕ) → StoreAt q w p i → cell q w p i ≡ a → stores_to q w a (access_at p i) ≡ true
  stores_to_is a p i x e = and_from _ _ (lt-ltb _ _ x.0) (and_from _ _ x.1 (eq-eqb _ _ e))

  pub stores_to_parts : (a : ℕ) (x : Access) → stores_to q w a x ≡ true → (StoreAt q w x.processor x.position) × (cell q w x.processor x.position ≡ a)
  stores_to_parts a x h =
      let (l, m) = and_parts (ltb x.position (length (path_at w x.processor))) _ h in
      let (st, e) = and_parts (stores (instruction q w x.processor x.position)) (eqb (cell q w x.processor x.position) a) m in
      ((ltb-true _ _ l, st), eqb-true _ _ e)

  -- An access that does not store there leaves the cell as it is; a store leaves its data.
  cell_skip : (t a : ℕ) → stores_to q w a (ordered q w t) ≡ false → cell_after q w (suc t) a ≡ cell_after q w t a
  unfolding nearest
  cell_skip t a h = ap {B = Cell} (λ (b : Bool). cell_from q w a (cond b (Some t) (nearest (λ k. stores_to q w a (ordered q w k)) t))) h

  cell_hit : (t a : ℕ) → stores_to q w a (ordered q w t) ≡ true → cell_after q w (suc t) a ≡ left_by q w (ordered q w t)
  unfolding nearest
  cell_hit t a h = ap {B = Cell} (λ (b : Bool). cell_from q w a (cond b (Some t) (nearest (λ k. stores_to q w a (ordered q w k)) t))) h

  module _ (t : ℕ) (s : State) (R : Related q w t s) (p i : ℕ) (there : ordered q w t ≡ access_at p i) where
    -- The next access is no store: the cells stay.
    pub cells_stay : stores (instruction q w p i) ≡ false → (a : ℕ) → a < 16 → get_or s.cells a zero_cell ≡ cell_after q w (suc t) a
    cells_stay none a l = R.cells a l ∙ sym (cell_skip t a (not_passing (stores_to q w a (ordered q w t)) (λ h.
        both_ways (stores (instruction q w p i)) none (subst (λ (x : Access). stores (instruction q w x.processor x.position) ≡ true) there (stores_to_parts a (ordered q w t) h).0.1))))

    -- The next access is a store: its cell gets its data and its mark.
    pub cells_written : StoreAt q w p i → (a : ℕ) → a < 16 →
        get_or (written s.cells (event q w p i).address (record { value = (event q w p i).datum; mark = mark.Store p i })) a zero_cell ≡ cell_after q w (suc t) a
    cells_written x a l = elim (cases_eq a (cell q w p i)) [
      | inl e ↦ (let new : Cell = record { value = (event q w p i).datum; mark = mark.Store p i } in
          ap (λ k. get_or (set s.cells (cell q w p i) new) k zero_cell) e
          ∙ get_or-set_same s.cells (cell q w p i) new zero_cell (omega (arith, R.invariant.sixteen))
          ∙ sym (cell_hit t a (ap (stores_to q w a) there ∙ stores_to_is a p i x (sym e)) ∙ ap (left_by q w) there))
      | inr n ↦ get_or-set_other s.cells (cell q w p i) a _ zero_cell n
          ∙ R.cells a l
          ∙ sym (cell_skip t a (not_passing (stores_to q w a (ordered q w t)) (λ h.
          n (sym (subst (λ (y : Access). cell q w y.processor y.position ≡ a) there (stores_to_parts a (ordered q w t) h).1)))))
    ]
