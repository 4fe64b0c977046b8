-- The nearest earlier store to the cell of an event, and when two events are to one cell.
use Rattle.std.proofs.Common.{◌≡◌, ℕ, ◌<◌, Bool, true, false, ◌&&◌, eqb, Some, None, Option, sym, refl, ap, ◌∙◌}
use Rattle.std.proofs.lemmas.Bool.{both_ways, and_parts, and_from, eqb-true, eq-eqb, false≢true}
use Rattle.instructions.specs.Kinds.{stores}
use Rattle.question.specs.Litmus.{Litmus}
use Rattle.rules.specs.Tests.{same_cell}
use Rattle.instructions.specs.Effects.{cell_number}
use Rattle.search.specs.Search.{Sought}
use Rattle.search.proofs.Searches.{nearest_found}
use Rattle.witness.specs.Execution.{Execution}
use Rattle.events.specs.Sources.{events}
use Rattle.ordering.specs.Constraints as constraints
use Rattle.ordering.specs.Rules.{instruction_of, cell_of}
use Rattle.checker.specs.Terms.{instruction, cell}
use Rattle.completeness.proofs.Related.{StoreBefore}

-- The address is available and means the cell.
pub cell_known : (a : ℕ) (o : Option ℕ) → same_cell a o ≡ true → (b : ℕ) × (o ≡ Some b) × (cell_number a ≡ cell_number b)
cell_known a None h = absurd (false≢true h)
cell_known a (Some b) h = (b, refl, eqb-true _ _ h)

pub cell_met : (a b : ℕ) (o : Option ℕ) → o ≡ Some b → cell_number a ≡ cell_number b → same_cell a o ≡ true
cell_met a b o e h = ap (same_cell a) e ∙ eq-eqb _ _ h

module _ (q : Litmus) (w : Execution) (p : ℕ) where
  -- Two events of a path are to one cell.
  pub one_cell : (i j : ℕ) → cell q w p i ≡ cell q w p j → constraints.SameCell (instruction_of (events q w p)) (cell_of (events q w p)) i j
  one_cell i j e = record { number = cell q w p j; first = ap Some e; second = refl }

  pub cell_same : (i j : ℕ) → constraints.SameCell (instruction_of (events q w p)) (cell_of (events q w p)) i j → cell q w p i ≡ cell q w p j
  cell_same i j x = some_same (x.first ∙ sym x.second)
    where
      some_same : {a b : ℕ} → Some a ≡ Some b → a ≡ b
      some_same h = cc

  -- A store to the cell of the event at j.
  abbrev stores_there : ℕ → ℕ → Bool
  stores_there j m = stores (instruction q w p m) && eqb (cell q w p m) (cell q w p j)

  -- No store between i and j is to the cell of j.
  abbrev pub Gap : ℕ → ℕ → Type 0
  Gap i j = (m : ℕ) → i < m → m < j → stores (instruction q w p m) ≡ true → cell q w p m ≡ cell q w p j → ⊥

  -- The nearest earlier store to the cell of the event at j, if there is one.
  pub data StoredBefore (j : ℕ) : Type 0 where
    never : ((m : ℕ) → m < j → stores (instruction q w p m) ≡ true → cell q w p m ≡ cell q w p j → ⊥) → StoredBefore j
    by : (m : ℕ) → m < j → stores (instruction q w p m) ≡ true → cell q w p m ≡ cell q w p j → Gap m j → StoredBefore j

  pub stored_before : (j : ℕ) → StoredBefore j
  stored_before j = go (nearest_found (stores_there j) j)
    where
      missed : (m : ℕ) → stores_there j m ≡ false → stores (instruction q w p m) ≡ true → cell q w p m ≡ cell q w p j → ⊥
      missed m f h e = both_ways (stores_there j m) f (and_from _ _ h (eq-eqb _ _ e))

      go : {o : Option ℕ} → Sought (stores_there j) j o → StoredBefore j
      go (Sought.nothing none) = never (λ m l. missed m (none m l))
      go (Sought.found m n) =
          let (h, e) = and_parts (stores (instruction q w p m)) (eqb (cell q w p m) (cell q w p j)) n.hit in
          by m n.below h (eqb-true _ _ e) (λ k u v. missed k (n.between k u v))

  -- As the constraints put it.
  pub store_before_is : (m j : ℕ) → m < j → stores (instruction q w p m) ≡ true → cell q w p m ≡ cell q w p j → Gap m j → StoreBefore q w p m j
  store_before_is m j l h e gap = record { earlier = l; store = h; same = one_cell m j e; none_between = λ k u v x y. gap k u v x (cell_same k j y) }
