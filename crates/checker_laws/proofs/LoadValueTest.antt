-- Where Order holds, the fifth test passes exactly when each load's source is the youngest of its candidates.
use Rattle.std.proofs.Common.{◌≡◌, ℕ, ◌<◌, Bool, true, false, not, ◌&&◌, ◌||◌, eqb, ltb, ◌⊎◌, length, Decides, Option, sym, refl, ap, ◌∙◌, subst, inl, inr, arith}
use Rattle.std.proofs.lemmas.Bool.{both_ways, false≢true, cases_order, or_left, or_right, ltb-true}
use Rattle.std.proofs.lemmas.Bool.Decides.{Decides-and, Decides-or, Decides-like, Decides-at, Decides-ltb, Decides-eqb}
use Rattle.instructions.specs.Kinds.{loads, stores}
use Rattle.question.specs.Litmus.{Litmus}
use Rattle.search.specs.Search.{nearest, Nearest, Sought}
use Rattle.search.proofs.Searches.{nearest_found}
use Rattle.witness.specs.Execution.{Execution}
use Rattle.witness.specs.declared.record.Access.{Access}
use Rattle.witness.specs.declared.record.Source.{Source}
use Rattle.events.specs.Sources.{path_at, source_at}
use Rattle.checker.specs.Terms.{access_at, instruction, cell, AccessAt, LoadAt, StoreAt, Stands, Precedes}
use Rattle.checker.specs.Axioms.{Order, Candidate, Youngest, LoadValue}
use Rattle.checker.specs.Fixed.{stores_to}
use Rattle.checker.specs.Tests.{all_below, same_access, ordered, rank, names_start, is_candidate, names_found, is_youngest, load_value_test}
use Rattle.checker_laws.proofs.Bounds.{decides_all}
use Rattle.checker_laws.proofs.OrderTest.{on_path_processor}
use Rattle.checker_laws.proofs.Ranks.{same_access_is, rank_stands, ordered_access, rank_ordered, precedes_is}
use Rattle.checker_laws.proofs.SourceTest.{stores_to_is, names_start_is}

module _ (q : Litmus) (w : Execution) (O : Order q w) where
  store_access : (p i : ℕ) → StoreAt q w p i → AccessAt q w p i
  store_access p i s = (s.0, or_right (loads (instruction q w p i)) (stores (instruction q w p i)) s.1)

  load_access : (p i : ℕ) → LoadAt q w p i → AccessAt q w p i
  load_access p i s = (s.0, or_left (loads (instruction q w p i)) (stores (instruction q w p i)) s.1)

  module _ (p i : ℕ) (L : LoadAt q w p i) where
    -- The access at a number passes exactly when it is a candidate.
    candidate_is : (k : ℕ) → k < length w.order → Decides (is_candidate q w p i k) (Candidate q w p i (ordered q w k))
    candidate_is k l =
        let a = ordered q w k in
        Decides-like (is_candidate q w p i k)
        (λ x. record { store = x.0.0; same = x.0.1; sooner = x.1 })
        (λ x. ((x.store, x.same), x.sooner))
        (Decides-and (stores_to q w (cell q w p i) a) _ (stores_to_is q w (cell q w p i) a)
        (Decides-or (ltb k (rank q w p i)) (eqb a.processor p && ltb a.position i)
        (Decides-at (ltb k (rank q w p i)) (ltb (rank q w a.processor a.position) (rank q w p i))
        (ap (λ z. ltb z (rank q w p i)) (sym (rank_ordered q w O k l)))
        (precedes_is q w O a.processor a.position p i (ordered_access q w O k l) (load_access p i L)))
        (Decides-and (eqb a.processor p) (ltb a.position i) (Decides-eqb a.processor p) (Decides-ltb a.position i))))

    -- A candidate stands at its rank, and passes there.
    abbrev number : Access → ℕ
    number a = rank q w a.processor a.position

    candidate_stands : (a : Access) → Candidate q w p i a → Stands w.order (number a) a
    candidate_stands a c = rank_stands q w O a.processor a.position (store_access a.processor a.position c.store)

    candidate_passes : (a : Access) → Candidate q w p i a → is_candidate q w p i (number a) ≡ true
    candidate_passes a c =
        let s = candidate_stands a c in
        (candidate_is (number a) s.0).1 (subst (λ z. Candidate q w p i z) (sym s.1) c)

    -- No candidate is younger than the one that the search found.
    none_younger : (k : ℕ) → Nearest (is_candidate q w p i) (length w.order) k → (a : Access) → Candidate q w p i a → k < number a → ⊥
    none_younger k n a c l =
        both_ways (is_candidate q w p i (number a)) (n.between (number a) l (candidate_stands a c).0) (candidate_passes a c)

    -- Each other candidate precedes the one that the search found.
    found_is_youngest : (k : ℕ) → Nearest (is_candidate q w p i) (length w.order) k → (a : Access) → Candidate q w p i a →
        (a ≡ ordered q w k) ⊎ Precedes w.order a (ordered q w k)
    found_is_youngest k n a c = elim (cases_order (number a) k) [
      | inl e ↦ inl (sym (candidate_stands a c).1 ∙ subst (λ z. ordered q w z ≡ ordered q w k) (sym e) refl)
      | inr (inl l) ↦ inr (record { first = number a; second = k; before = l; first_stands = candidate_stands a c; second_stands = (n.below, refl) })
      | inr (inr l) ↦ absurd (none_younger k n a c l)
    ]

    -- A record that names the start, where the search finds nothing.
    start_is : (r : Source) → ((k : ℕ) → k < length w.order → is_candidate q w p i k ≡ false) → Decides (names_start q w r) (Youngest q w p i r)
    start_is r h = (λ e. Youngest.start ((names_start_is q w r).0 e) none, back)
      where
        none : (a : Access) → Candidate q w p i a → ⊥
        none a c = both_ways (is_candidate q w p i (number a)) (h (number a) (candidate_stands a c).0) (candidate_passes a c)

        back : Youngest q w p i r → names_start q w r ≡ true
        back (Youngest.start n _) = (names_start_is q w r).1 n
        back (Youngest.store c _) = absurd (none (access_at r.processor r.position) c)

    -- A record that names the access that the search found.
    store_is : (r : Source) (k : ℕ) → Nearest (is_candidate q w p i) (length w.order) k →
        Decides (same_access (access_at r.processor r.position) (ordered q w k)) (Youngest q w p i r)
    store_is r k n = (to, back)
      where
        found : Candidate q w p i (ordered q w k)
        found = (candidate_is k n.below).0 n.hit

        to : same_access (access_at r.processor r.position) (ordered q w k) ≡ true → Youngest q w p i r
        to e =
            let s = (same_access_is (access_at r.processor r.position) (ordered q w k)).0 e in
            Youngest.store (subst (λ z. Candidate q w p i z) (sym s) found)
            (subst (λ z. (b : Access) → Candidate q w p i b → (b ≡ z) ⊎ Precedes w.order b z) (sym s) (found_is_youngest k n))

        back : Youngest q w p i r → same_access (access_at r.processor r.position) (ordered q w k) ≡ true
        back (Youngest.start _ none) = absurd (none (ordered q w k) found)
        back (Youngest.store c young) = (same_access_is (access_at r.processor r.position) (ordered q w k)).1 (elim (young (ordered q w k) found) [
          | inl e ↦ sym e
          | inr x ↦ absurd (none_younger k n (access_at r.processor r.position) c (
              let l = (precedes_is q w O (ordered q w k).processor (ordered q w k).position r.processor r.position
              (ordered_access q w O k n.below) (store_access r.processor r.position c.store)).1 x in
              let m = rank_ordered q w O k n.below in
              omega (arith, ltb-true (number (ordered q w k)) (rank q w r.processor r.position) l)))
        ])

    pub youngest_is : (r : Source) → Decides (names_found q w r (nearest (is_candidate q w p i) (length w.order))) (Youngest q w p i r)
    youngest_is r = go (nearest_found (is_candidate q w p i) (length w.order))
      where
        go : {o : Option ℕ} → Sought (is_candidate q w p i) (length w.order) o → Decides (names_found q w r o) (Youngest q w p i r)
        go (Sought.nothing h) = start_is r h
        go (Sought.found k n) = store_is r k n

  -- Of a load the source is the youngest.
  abbrev Loaded : ℕ → ℕ → Type 0
  Loaded p i = loads (instruction q w p i) ≡ true → Youngest q w p i (source_at q w p i)

  is_youngest_is : (p i : ℕ) → i < length (path_at w p) → Decides (is_youngest q w p i) (Loaded p i)
  is_youngest_is p i l = go (loads (instruction q w p i)) refl
    where
      go : (b : Bool) → loads (instruction q w p i) ≡ b →
          Decides (not b || names_found q w (source_at q w p i) (nearest (is_candidate q w p i) (length w.order))) (b ≡ true → Youngest q w p i (source_at q w p i))
      go true e =
          let d = youngest_is p i (l, e) (source_at q w p i) in
          (λ h _. d.0 h, λ f. d.1 (f refl))
      go false e = (λ _ f. absurd (false≢true f), λ _. refl)

  pub load_value_test_is : Decides (load_value_test q w) (LoadValue q w)
  unfolding load_value_test
  load_value_test_is =
      Decides-like (all_below (λ p. all_below (is_youngest q w p) (length (path_at w p))) (length w.paths))
      (λ h p i l. h p (on_path_processor q w p i l.0) i l.0 l.1)
      (λ h p _ i l e. h p i (l, e))
      (decides_all (λ p. all_below (is_youngest q w p) (length (path_at w p)))
      (λ p. (i : ℕ) → i < length (path_at w p) → Loaded p i) (length w.paths) (λ p _.
      decides_all (is_youngest q w p) (Loaded p) (length (path_at w p)) (λ i l. is_youngest_is p i l)))
