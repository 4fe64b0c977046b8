-- In an order that has each access of the paths once, each access has its number, and one precedes another exactly when its number is lower.
use Rattle.std.proofs.Common.{◌≡◌, ℕ, ◌<◌, true, eqb, ltb, length, Decides, sym, refl, ap, subst, ap₂, arith}
use Rattle.std.proofs.lemmas.Bool.{eqb-true, eq-eqb, and_parts, and_from}
use Rattle.std.proofs.lemmas.Bool.Decides.{Decides-like, Decides-ltb}
use Rattle.question.specs.Litmus.{Litmus}
use Rattle.search.proofs.Searches.{nearest_is}
use Rattle.witness.specs.Execution.{Execution}
use Rattle.witness.specs.declared.record.Access.{Access}
use Rattle.checker.specs.Terms.{access_at, AccessAt, Stands, Precedes}
use Rattle.checker.specs.Axioms.{Order}
use Rattle.checker.specs.Tests.{same_access, ordered, rank, number_or_0}
use Rattle.checker_laws.proofs.Bounds.{not_passing}

-- The test of two accesses decides that they are one.
pub same_access_is : (a b : Access) → Decides (same_access a b) (a ≡ b)
same_access_is a b = (to, from)
  where
    to : same_access a b ≡ true → a ≡ b
    to h =
        let q = and_parts (eqb a.processor b.processor) (eqb a.position b.position) h in
        ap₂ access_at (eqb-true _ _ q.0) (eqb-true _ _ q.1)

    from : a ≡ b → same_access a b ≡ true
    from e = and_from _ _ (eq-eqb _ _ (ap (λ (z : Access). z.processor) e)) (eq-eqb _ _ (ap (λ (z : Access). z.position) e))

module _ (q : Litmus) (w : Execution) (O : Order q w) where
  -- The number at which an access of the paths stands is its rank.
  pub rank_is : (p i k : ℕ) → AccessAt q w p i → Stands w.order k (access_at p i) → rank q w p i ≡ k
  rank_is p i k a s = ap (number_or_0 q w) (nearest_is (λ m. same_access (ordered q w m) (access_at p i)) (length w.order) k (record {
    below = s.0;
    hit = (same_access_is (ordered q w k) (access_at p i)).1 s.1;
    between = λ m u v. not_passing (same_access (ordered q w m) (access_at p i)) (λ h.
        let x = O.once p i a in
        let e = x.only_there k s in
        let f = x.only_there m (v, (same_access_is (ordered q w m) (access_at p i)).0 h) in
        omega arith);
  }))

  -- An access of the paths stands at its rank.
  pub rank_stands : (p i : ℕ) → AccessAt q w p i → Stands w.order (rank q w p i) (access_at p i)
  rank_stands p i a =
      let x = O.once p i a in
      subst (λ k. Stands w.order k (access_at p i)) (sym (rank_is p i x.number a x.stands)) x.stands

  -- What stands at a number is an access of the paths, and the number is its rank.
  pub ordered_access : (k : ℕ) → k < length w.order → AccessAt q w (ordered q w k).processor (ordered q w k).position
  ordered_access k l = O.nothing_else k (ordered q w k) (l, refl)

  pub rank_ordered : (k : ℕ) → k < length w.order → rank q w (ordered q w k).processor (ordered q w k).position ≡ k
  rank_ordered k l = rank_is (ordered q w k).processor (ordered q w k).position k (ordered_access k l) (l, refl)

  -- One access precedes another exactly when its rank is lower.
  pub precedes_is : (p i r j : ℕ) → AccessAt q w p i → AccessAt q w r j →
      Decides (ltb (rank q w p i) (rank q w r j)) (Precedes w.order (access_at p i) (access_at r j))
  precedes_is p i r j a b =
      Decides-like _
      (λ l. record { first = rank q w p i; second = rank q w r j; before = l; first_stands = rank_stands p i a; second_stands = rank_stands r j b })
      (λ x. omega (arith, x.before, rank_is p i x.first a x.first_stands, rank_is r j x.second b x.second_stands))
      (Decides-ltb (rank q w p i) (rank q w r j))
