-- The third test passes exactly when the named source of every load is the start with its value, or a store to its cell with its data.
use Rattle.std.proofs.Common.{◌≡◌, ℕ, ◌<◌, true, ◌&&◌, eqb, ltb, ◌⊎◌, length, get_or, Decides, inl, inr}
use Rattle.std.proofs.lemmas.Bool.Decides.{Decides-and, Decides-or, Decides-like, Decides-ltb, Decides-eqb}
use Rattle.instructions.specs.Kinds.{loads, stores}
use Rattle.question.specs.Litmus.{Litmus}
use Rattle.witness.specs.Execution.{Execution}
use Rattle.witness.specs.declared.record.Access.{Access}
use Rattle.witness.specs.declared.record.Source.{Source}
use Rattle.events.specs.Sources.{path_at, source_at}
use Rattle.checker.specs.Terms.{access_at, event, instruction, cell, StoreAt}
use Rattle.checker.specs.Axioms.{NamesStart, Sourced, SourceAxiom}
use Rattle.checker.specs.Fixed.{stores_to}
use Rattle.checker.specs.Tests.{all_below, names_start, names_store, is_sourced, source_test}
use Rattle.checker_laws.proofs.Bounds.{decides_pass, decides_implies, decides_all}
use Rattle.checker_laws.proofs.OrderTest.{on_path_processor}

module _ (q : Litmus) (w : Execution) where
  -- A store of the paths to the cell.
  pub stores_to_is : (a : ℕ) (x : Access) →
      Decides (stores_to q w a x) (StoreAt q w x.processor x.position × (cell q w x.processor x.position ≡ a))
  stores_to_is a x =
      Decides-like (stores_to q w a x)
      (λ y. ((y.0, y.1.0), y.1.1))
      (λ y. (y.0.0, (y.0.1, y.1)))
      (Decides-and (ltb x.position (length (path_at w x.processor))) _ (Decides-ltb x.position (length (path_at w x.processor)))
      (Decides-and (stores (instruction q w x.processor x.position)) (eqb (cell q w x.processor x.position) a)
      (decides_pass (stores (instruction q w x.processor x.position)))
      (Decides-eqb (cell q w x.processor x.position) a)))

  -- A record that names the start.
  pub names_start_is : (r : Source) → Decides (names_start q w r) (NamesStart r)
  names_start_is r = Decides-and (eqb r.processor 255) (eqb r.position 255) (Decides-eqb r.processor 255) (Decides-eqb r.position 255)

  -- The two ways to be sourced.
  abbrev Ways : ℕ → ℕ → Type 0
  Ways p i =
      (NamesStart (source_at q w p i) × ((source_at q w p i).value ≡ get_or q.start (cell q w p i) 0))
      ⊎ ((StoreAt q w (source_at q w p i).processor (source_at q w p i).position
      × (cell q w (source_at q w p i).processor (source_at q w p i).position ≡ cell q w p i))
      × ((source_at q w p i).value ≡ (event q w (source_at q w p i).processor (source_at q w p i).position).datum))

  to_sourced : (p i : ℕ) → Ways p i → Sourced q w p i
  to_sourced p i (inl x) = Sourced.from_start x.0 x.1
  to_sourced p i (inr x) = Sourced.from_store x.0.0 x.0.1 x.1

  from_sourced : (p i : ℕ) → Sourced q w p i → Ways p i
  from_sourced p i (Sourced.from_start n v) = inl (n, v)
  from_sourced p i (Sourced.from_store s c v) = inr ((s, c), v)

  is_sourced_is : (p i : ℕ) → Decides (is_sourced q w p i) (loads (instruction q w p i) ≡ true → Sourced q w p i)
  is_sourced_is p i =
      let r = source_at q w p i in
      decides_implies (loads (instruction q w p i)) _ (decides_pass (loads (instruction q w p i)))
      (Decides-like _ (to_sourced p i) (from_sourced p i)
      (Decides-or (names_start q w r && eqb r.value (get_or q.start (cell q w p i) 0)) (names_store q w (cell q w p i) r)
      (Decides-and (names_start q w r) (eqb r.value (get_or q.start (cell q w p i) 0))
      (names_start_is r) (Decides-eqb r.value (get_or q.start (cell q w p i) 0)))
      (Decides-and (stores_to q w (cell q w p i) (access_at r.processor r.position)) (eqb r.value (event q w r.processor r.position).datum)
      (stores_to_is (cell q w p i) (access_at r.processor r.position))
      (Decides-eqb r.value (event q w r.processor r.position).datum))))

  pub source_test_is : Decides (source_test q w) (SourceAxiom q w)
  unfolding source_test
  source_test_is =
      Decides-like (all_below (λ p. all_below (is_sourced q w p) (length (path_at w p))) (length w.paths))
      (λ h p i l. h p (on_path_processor q w p i l.0) i l.0 l.1)
      (λ h p _ i l e. h p i (l, e))
      (decides_all (λ p. all_below (is_sourced q w p) (length (path_at w p)))
      (λ p. (i : ℕ) → i < length (path_at w p) → loads (instruction q w p i) ≡ true → Sourced q w p i) (length w.paths) (λ p _.
      decides_all (is_sourced q w p) (λ i. loads (instruction q w p i) ≡ true → Sourced q w p i) (length (path_at w p)) (λ i _. is_sourced_is p i)))
