-- The second test passes exactly when the order has each access of the paths once, and nothing else.
use Rattle.std.proofs.Common.{◌≡◌, ℕ, ◌<◌, true, not, ◌&&◌, ltb, [], length, Decides, sym, refl, ◌∙◌, subst, inl, inr, arith}
use Rattle.std.proofs.lemmas.List.{get_or_past}
use Rattle.std.proofs.lemmas.Bool.{cases_lt, cases_order}
use Rattle.std.proofs.lemmas.Bool.Decides.{Decides-and, Decides-not, Decides-like, Decides-ltb}
use Rattle.instructions.specs.Kinds.{access}
use Rattle.question.specs.Litmus.{Litmus}
use Rattle.witness.specs.Execution.{Execution}
use Rattle.witness.specs.declared.record.Access.{Access}
use Rattle.events.specs.Sources.{path_at}
use Rattle.ordering.specs.Tests.{some_below}
use Rattle.checker.specs.Terms.{access_at, instruction, AccessAt, OnPath}
use Rattle.checker.specs.Axioms.{Order}
use Rattle.checker.specs.Tests.{all_below, same_access, ordered, is_access, is_new, is_ordered, order_test}
use Rattle.checker_laws.proofs.Bounds.{decides_pass, decides_implies, decides_some, decides_all}
use Rattle.checker_laws.proofs.Ranks.{same_access_is}

module _ (q : Litmus) (w : Execution) where
  -- A path that has a position is one of the witness's.
  pub on_path_processor : (p i : ℕ) → OnPath q w p i → p < length w.paths
  on_path_processor p i l = elim (cases_lt p (length w.paths)) [
    | inl h ↦ h
    | inr h ↦ let e : path_at w p ≡ [] = get_or_past w.paths p [] h in let z : i < length {A = ℕ} [] = rw e at l in absurd (omega arith)
  ]

  is_access_is : (p i : ℕ) → Decides (is_access q w p i) (AccessAt q w p i)
  is_access_is p i =
      Decides-and (ltb i (length (path_at w p))) (access (instruction q w p i))
      (Decides-ltb i (length (path_at w p))) (decides_pass (access (instruction q w p i)))

  -- An access of the paths that does not stand before.
  abbrev New : ℕ → Type 0
  New k = AccessAt q w (ordered q w k).processor (ordered q w k).position × ((m : ℕ) × (m < k) × (ordered q w m ≡ ordered q w k) → ⊥)

  is_new_is : (k : ℕ) → Decides (is_new q w k) (New k)
  is_new_is k =
      let t = λ (m : ℕ). same_access (ordered q w m) (ordered q w k) in
      Decides-and (is_access q w (ordered q w k).processor (ordered q w k).position) (not (some_below t k))
      (is_access_is (ordered q w k).processor (ordered q w k).position)
      (Decides-not (some_below t k) (decides_some t (λ m. ordered q w m ≡ ordered q w k) k (λ m _. same_access_is (ordered q w m) (ordered q w k))))

  -- If it is an access, it stands in the order.
  abbrev Placed : ℕ → ℕ → Type 0
  Placed p i = access (instruction q w p i) ≡ true → (k : ℕ) × (k < length w.order) × (ordered q w k ≡ access_at p i)

  is_ordered_is : (p i : ℕ) → Decides (is_ordered q w p i) (Placed p i)
  is_ordered_is p i =
      let t = λ (k : ℕ). same_access (ordered q w k) (access_at p i) in
      decides_implies (access (instruction q w p i)) (some_below t (length w.order)) (decides_pass (access (instruction q w p i)))
      (decides_some t (λ k. ordered q w k ≡ access_at p i) (length w.order) (λ k _. same_access_is (ordered q w k) (access_at p i)))

  abbrev EachOnce : Type 0
  EachOnce =
      ((k : ℕ) → k < length w.order → New k)
      × ((p : ℕ) → p < length w.paths → (i : ℕ) → i < length (path_at w p) → Placed p i)

  -- No access stands twice.
  one_number : EachOnce → (k m : ℕ) → k < length w.order → m < length w.order → ordered q w k ≡ ordered q w m → k ≡ m
  one_number x k m lk lm e = elim (cases_order k m) [
    | inl h ↦ h
    | inr (inl h) ↦ absurd ((x.0 m lm).1 (k, h, e))
    | inr (inr h) ↦ absurd ((x.0 k lk).1 (m, h, sym e))
  ]

  to_order : EachOnce → Order q w
  to_order x = record {
    once = λ p i a.
        let y = x.1 p (on_path_processor p i a.0) i a.0 a.1 in
        record {
          number = y.0;
          stands = (y.1, y.2);
          only_there = λ k s. one_number x k y.0 s.0 y.1 (s.1 ∙ sym y.2);
        };
    nothing_else = λ k a s. subst (λ (z : Access). AccessAt q w z.processor z.position) s.1 (x.0 k s.0).0;
  }

  from_order : Order q w → EachOnce
  from_order O = (fresh, λ p _ i l a. let y = O.once p i (l, a) in (y.number, y.stands.0, y.stands.1))
    where
      fresh : (k : ℕ) → k < length w.order → New k
      fresh k l =
          let a = O.nothing_else k (ordered q w k) (l, refl) in
          let y = O.once (ordered q w k).processor (ordered q w k).position a in (
            a,
            λ m.
                let f = y.only_there k (l, refl) in
                let g = y.only_there m.0 (omega (arith, m.1), m.2) in
                omega (arith, m.1),
          )

  pub order_test_is : Decides (order_test q w) (Order q w)
  unfolding order_test
  order_test_is =
      Decides-like (all_below (is_new q w) (length w.order) && all_below (λ p. all_below (is_ordered q w p) (length (path_at w p))) (length w.paths))
      to_order from_order
      (Decides-and (all_below (is_new q w) (length w.order)) (all_below (λ p. all_below (is_ordered q w p) (length (path_at w p))) (length w.paths))
      (decides_all (is_new q w) New (length w.order) (λ k _. is_new_is k))
      (decides_all (λ p. all_below (is_ordered q w p) (length (path_at w p))) (λ p. (i : ℕ) → i < length (path_at w p) → Placed p i) (length w.paths) (λ p _.
      decides_all (is_ordered q w p) (Placed p) (length (path_at w p)) (λ i _. is_ordered_is p i))))
