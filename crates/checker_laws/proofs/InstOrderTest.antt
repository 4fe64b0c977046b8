-- Where Order holds, the fourth test passes exactly when what the rule keeps stands so in the order.
use Rattle.std.proofs.Common.{◌≡◌, ℕ, ◌<◌, Bool, true, false, ◌&&◌, ltb, List, length, get_or, Decides}
use Rattle.std.proofs.lemmas.Bool.{lt-ltb, ltb-true}
use Rattle.std.proofs.lemmas.Bool.Decides.{Decides-and, Decides-like, Decides-ltb}
use Rattle.instructions.specs.Kinds.{access}
use Rattle.question.specs.Litmus.{Litmus}
use Rattle.witness.specs.Execution.{Execution}
use Rattle.events.specs.declared.event.Event.{Event}
use Rattle.events.specs.Sources.{path_at, events}
use Rattle.ordering.specs.Closure.{Closure}
use Rattle.ordering.specs.Rules.{Rule, tested}
use Rattle.checker.specs.Terms.{instruction}
use Rattle.checker.specs.Axioms.{Order, InstOrder}
use Rattle.checker.specs.Tests.{all_below, reached, rank, is_kept_in_order, inst_order_test}
use Rattle.checker.specs.Verdict.{Forward}
use Rattle.checker_laws.proofs.Bounds.{decides_pass, decides_implies, decides_all}
use Rattle.checker_laws.proofs.Closed.{reached_is, closure_below}
use Rattle.checker_laws.proofs.OrderTest.{on_path_processor}
use Rattle.checker_laws.proofs.Ranks.{precedes_is}

-- Two rules that keep the same pairs of a path's positions, both forward, have the same InstOrder.
pub inst_order_moves : (R Q : Rule) (q : Litmus) (w : Execution) →
    ((es : List Event) (i j : ℕ) → Q es i j → i < j) →
    ((p i j : ℕ) → j < length (path_at w p) → Q (events q w p) i j → R (events q w p) i j) →
    InstOrder q w R → InstOrder q w Q
inst_order_moves R Q q w forward same h p i j a b c =
    h p i j a b (closure_below (length (path_at w p)) (forward (events q w p)) (same p) i j b.0 c)

module _ (keeps : List Event → ℕ → ℕ → Bool) (forward : Forward keeps) (q : Litmus) (w : Execution) where
  -- Two accesses of a path that the rule keeps in this order.
  abbrev Kept : ℕ → ℕ → ℕ → Type 0
  Kept p i j = (access (instruction q w p i) ≡ true) × ((access (instruction q w p j) ≡ true) × Closure (tested keeps (events q w p)) i j)

  is_kept_in_order_is : (p i j : ℕ) → j < length (path_at w p) →
      Decides (is_kept_in_order q w keeps p i j) (Kept p i j → rank q w p i < rank q w p j)
  is_kept_in_order_is p i j l =
      let entry = get_or (reached (keeps (events q w p)) i (length (path_at w p))) j false in
      decides_implies (access (instruction q w p i) && (access (instruction q w p j) && entry)) (ltb (rank q w p i) (rank q w p j))
      (Decides-and (access (instruction q w p i)) (access (instruction q w p j) && entry) (decides_pass (access (instruction q w p i)))
      (Decides-and (access (instruction q w p j)) entry (decides_pass (access (instruction q w p j)))
      (reached_is (keeps (events q w p)) (forward (events q w p)) i (length (path_at w p)) j l)))
      (Decides-ltb (rank q w p i) (rank q w p j))

  abbrev AllInOrder : Type 0
  AllInOrder =
      (p : ℕ) → p < length w.paths → (i : ℕ) → i < length (path_at w p) → (j : ℕ) → j < length (path_at w p) →
      Kept p i j → rank q w p i < rank q w p j

  all_in_order_is : Decides (inst_order_test q w keeps) AllInOrder
  unfolding inst_order_test
  all_in_order_is =
      let row = λ (p : ℕ) (i : ℕ). all_below (is_kept_in_order q w keeps p i) (length (path_at w p)) in
      decides_all (λ p. all_below (row p) (length (path_at w p)))
      (λ p. (i : ℕ) → i < length (path_at w p) → (j : ℕ) → j < length (path_at w p) → Kept p i j → rank q w p i < rank q w p j)
      (length w.paths) (λ p _.
      decides_all (row p) (λ i. (j : ℕ) → j < length (path_at w p) → Kept p i j → rank q w p i < rank q w p j) (length (path_at w p)) (λ i _.
      decides_all (is_kept_in_order q w keeps p i) (λ j. Kept p i j → rank q w p i < rank q w p j) (length (path_at w p)) (λ j l.
      is_kept_in_order_is p i j l)))

  pub inst_order_test_is : Order q w → Decides (inst_order_test q w keeps) (InstOrder q w (tested keeps))
  inst_order_test_is O =
      Decides-like (inst_order_test q w keeps)
      (λ h p i j a b c.
      (precedes_is q w O p i p j a b).0
      (lt-ltb (rank q w p i) (rank q w p j) (h p (on_path_processor q w p i a.0) i a.0 j b.0 (a.1, (b.1, c)))))
      (λ h p _ i li j lj k.
      ltb-true (rank q w p i) (rank q w p j)
      ((precedes_is q w O p i p j (li, k.0) (lj, k.1.0)).1 (h p i j (li, k.0) (lj, k.1.0) k.1.1)))
      all_in_order_is
