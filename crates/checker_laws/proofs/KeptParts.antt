-- What the seven tests are made of: writers that feed an operand, same cells, the nearest earlier store, each against its relation.
use Rattle.std.proofs.Common.{◌≡◌, ℕ, ◌<◌, ◌≤◌, Bool, true, false, not, eqb, ltb, List, length, Some, None, Decides, Option, sym, refl, ap, ◌∙◌, subst, inl, inr, arith}
use Rattle.std.proofs.lemmas.Bool.{cases_lt, both_ways, false≢true, eqb-true, eq-eqb}
use Rattle.std.proofs.lemmas.Bool.Decides.{Decides-and, Decides-or, Decides-not, Decides-like, Decides-ltb, Decides-eqb}
use Rattle.instructions.specs.Kinds.{stores, access, first_operand, second_operand, writes}
use Rattle.instructions.specs.declared.instruction.Instruction.{Instruction}
use Rattle.search.specs.Search.{passes, Nearest, Sought}
use Rattle.search.proofs.Searches.{nearest_found, nearest_some, nearest_is, passes_at}
use Rattle.events.specs.declared.event.Event.{Event}
use Rattle.events.specs.Events.{no_event, at, writes_register, writer}
use Rattle.instructions.specs.Effects.{cell_number}
use Rattle.ordering.specs.Constraints as constraints
use Rattle.ordering.specs.Rules.{instruction_of, cell_of}
use Rattle.ordering.specs.Tests as tests
use Rattle.checker_laws.proofs.Bounds.{decides_pass, not_passing}

-- The nearest by one test is the nearest by another that agrees below the bound.
pub nearest_moves : (t u : ℕ → Bool) (i k : ℕ) → ((m : ℕ) → m < i → t m ≡ u m) → Nearest t i k → Nearest u i k
nearest_moves t u i k h n = record {
  below = n.below;
  hit = sym (h k n.below) ∙ n.hit;
  between = λ m a b. sym (h m b) ∙ n.between m a b;
}

-- A search found a position.
found_at_is : (o : Option ℕ) (i : ℕ) → Decides (tests.found_at o i) (o ≡ Some i)
found_at_is None i = (λ e. absurd (false≢true e), λ e. let z : false ≡ true = cc in z)
found_at_is (Some k) i = (λ e. ap Some (eqb-true k i e), λ e. let z : k ≡ i = cc in eq-eqb k i z)

module _ (es : List Event) where
  abbrev ins : ℕ → Instruction
  ins = instruction_of es

  -- The operand's nearest earlier writer.
  pub feeds_is : (o : Option ℕ) (i j : ℕ) → j ≤ length es → Decides (tests.feeds es o i j) (constraints.Feeds ins (cell_of es) o i j)
  feeds_is None i j l = (λ e. absurd (false≢true e), λ x. let y = x.reads in let z : false ≡ true = cc in z)
  feeds_is (Some r) i j l =
      Decides-like (tests.found_at (writer es r j) i) to from (found_at_is (writer es r j) i)
    where
      agrees : (m : ℕ) → m < j → passes (writes_register r) es m ≡ writes (ins m) r
      agrees m h = passes_at (writes_register r) es m no_event (omega arith)

      to : writer es r j ≡ Some i → constraints.Feeds ins (cell_of es) (Some r) i j
      to e = record {
        register = r;
        reads = refl;
        writer = nearest_moves (passes (writes_register r) es) (λ m. writes (ins m) r) j i agrees (nearest_some (passes (writes_register r) es) j i e);
      }

      from : constraints.Feeds ins (cell_of es) (Some r) i j → writer es r j ≡ Some i
      from x =
          let y = x.reads in
          let z : x.register ≡ r = cc in
          nearest_is (passes (writes_register r) es) j i
          (nearest_moves (λ m. writes (ins m) r) (passes (writes_register r) es) j i (λ m h. sym (agrees m h))
          (subst (λ k. Nearest (λ m. writes (ins m) k) j i) z x.writer))

  pub depends_is : (i j : ℕ) → j ≤ length es → Decides (tests.depends es i j) (constraints.Depends ins (cell_of es) i j)
  depends_is i j l =
      Decides-or (tests.feeds es (first_operand (ins j)) i j) (tests.feeds es (second_operand (ins j)) i j)
      (feeds_is (first_operand (ins j)) i j l) (feeds_is (second_operand (ins j)) i j l)

  pub depends_for_address_is : (i j : ℕ) → j ≤ length es → Decides (tests.depends_for_address es i j) (constraints.DependsForAddress ins (cell_of es) i j)
  depends_for_address_is i j l =
      Decides-like (tests.depends_for_address es i j)
      (λ x. record { accesses = x.0; feeds = x.1 })
      (λ x. (x.accesses, x.feeds))
      (Decides-and (access (ins j)) (tests.feeds es (first_operand (ins j)) i j) (decides_pass (access (ins j))) (feeds_is (first_operand (ins j)) i j l))

  pub same_cell_is : (i j : ℕ) → Decides (tests.same_cell es i j) (constraints.SameCell ins (cell_of es) i j)
  same_cell_is i j =
      let a = cell_number (at es i).address in
      let b = cell_number (at es j).address in
      Decides-like (eqb a b)
      (λ e. record { number = b; first = ap Some e; second = refl })
      (λ x. let u = x.first in let v = x.second in let z : a ≡ b = cc in z)
      (Decides-eqb a b)

  -- What the search of the nearest earlier store looks for.
  abbrev store_for : ℕ → ℕ → Bool
  store_for j = passes (tests.stores_to (at es j).address) es

  store_for_is : (j m : ℕ) → m < length es → Decides (store_for j m) ((stores (ins m) ≡ true) × constraints.SameCell ins (cell_of es) m j)
  store_for_is j m l =
      let e = passes_at (tests.stores_to (at es j).address) es m no_event l in
      let d = Decides-and (stores (ins m)) (tests.same_cell es m j) (decides_pass (stores (ins m))) (same_cell_is m j) in
      (λ h. d.0 (sym e ∙ h), λ x. e ∙ d.1 x)

  nearest_store_to : (s j : ℕ) → j ≤ length es → Nearest (store_for j) j s → constraints.NearestStore ins (cell_of es) s j
  nearest_store_to s j l n =
      let d = (store_for_is j s (omega (arith, n.below))).0 n.hit in
      record {
        earlier = n.below;
        store = d.0;
        same = d.1;
        none_between = λ m a b st sa. both_ways (store_for j m) (n.between m a b) ((store_for_is j m (omega arith)).1 (st, sa));
      }

  nearest_store_from : (s j : ℕ) → j ≤ length es → constraints.NearestStore ins (cell_of es) s j → Nearest (store_for j) j s
  nearest_store_from s j l n = record {
    below = n.earlier;
    hit = (store_for_is j s (omega (arith, n.earlier))).1 (n.store, n.same);
    between = λ m a b. not_passing (store_for j m) (λ h. let d = (store_for_is j m (omega arith)).0 h in n.none_between m a b d.0 d.1);
  }

  pub found_depends_is : (i j : ℕ) → j ≤ length es →
      Decides (tests.found_depends es (tests.nearest_store es j) i)
      ((s : ℕ) × constraints.NearestStore ins (cell_of es) s j × constraints.Depends ins (cell_of es) i s)
  found_depends_is i j l = go (tests.nearest_store es j) refl
    where
      go : (o : Option ℕ) → tests.nearest_store es j ≡ o → Decides (tests.found_depends es o i)
          ((s : ℕ) × constraints.NearestStore ins (cell_of es) s j × constraints.Depends ins (cell_of es) i s)
      go None e = (λ f. absurd (false≢true f), λ x. let y = nearest_is (store_for j) j x.0 (nearest_store_from x.0 j l x.1) in let z : false ≡ true = cc in z)
      go (Some s) e =
          let n = nearest_some (store_for j) j s e in
          Decides-like (tests.depends es i s)
          (λ d. (s, nearest_store_to s j l n, d))
          (λ x. let y = nearest_is (store_for j) j x.0 (nearest_store_from x.0 j l x.1) in
          let z : x.0 ≡ s = cc in subst (λ k. constraints.Depends ins (cell_of es) i k) z x.2)
          (depends_is i s (omega (arith, n.below)))

  pub none_after_is : (i j : ℕ) → j ≤ length es →
      Decides (tests.none_after es (tests.nearest_store es j) i) (constraints.NoStoreBetween ins (cell_of es) i j)
  none_after_is i j l = go (nearest_found (store_for j) j)
    where
      go : {o : Option ℕ} → Sought (store_for j) j o → Decides (tests.none_after es o i) (constraints.NoStoreBetween ins (cell_of es) i j)
      go (Sought.nothing h) = (λ _ m a b st sa. both_ways (store_for j m) (h m b) ((store_for_is j m (omega arith)).1 (st, sa)), λ _. refl)
      go (Sought.found s n) =
          Decides-like (not (ltb i s))
          (λ c m a b st sa. elim (cases_lt s m) [
            | inl u ↦ both_ways (store_for j m) (n.between m u b) ((store_for_is j m (omega arith)).1 (st, sa))
            | inr u ↦ c (omega arith)
          ])
          (λ c u. let d = (store_for_is j s (omega (arith, n.below))).0 n.hit in c s u n.below d.0 d.1)
          (Decides-not (ltb i s) (Decides-ltb i s))
