-- The verdict is 0 exactly when the axioms hold, and else the number of the first that fails: for every rule given as a test, GAM and SC.
use Rattle.std.proofs.Common.{◌≡◌, ℕ, zero, suc, ◌<◌, ◌≤◌, Bool, true, false, cond, ◌↔◌, List, Decides, sym, refl, subst, inl, inr, arith}
use Rattle.std.proofs.lemmas.Bool.{cases_eq, cases_lt, cases_order, false≢true}
use Rattle.std.proofs.lemmas.Bool.Decides.{Decides-like}
use Rattle.question.specs.Litmus.{Litmus}
use Rattle.witness.specs.Execution.{Execution}
use Rattle.events.specs.declared.event.Event.{Event}
use Rattle.events.specs.Sources.{events}
use Rattle.ordering.specs.Rules.{Rule, tested, gam, sc, instruction_of, cell_of}
use Rattle.ordering.specs.Tests.{gam_keeps, sc_keeps}
use Rattle.checker.specs.Axioms.{Order, InstOrder, Axioms, Axiom}
use Rattle.checker.specs.Tests.{path_test, order_test, source_test, inst_order_test, load_value_test}
use Rattle.checker.specs.Verdict.{verdict, AcceptsExactly, NamesTheFirstThatFails, VerdictsAreTheAxioms, GAMVerdictsAreTheAxioms, SCVerdictsAreTheAxioms}
use Rattle.checker_laws.proofs.Built.{length_events}
use Rattle.checker_laws.proofs.Earlier.{gam_earlier, gam_keeps_forward, sc_keeps_forward}
use Rattle.checker_laws.proofs.InstOrderTest.{inst_order_moves, inst_order_test_is}
use Rattle.checker_laws.proofs.Kept.{gam_keeps_is, sc_keeps_is}
use Rattle.checker_laws.proofs.LoadValueTest.{load_value_test_is}
use Rattle.checker_laws.proofs.OrderTest.{order_test_is}
use Rattle.checker_laws.proofs.PathTest.{path_test_is}
use Rattle.checker_laws.proofs.SourceTest.{source_test_is}

module _ (R : Rule) (q : Litmus) (w : Execution) where
  -- The axioms up to a number hold.
  abbrev Upto : ℕ → Type 0
  Upto k = (m : ℕ) → m ≤ k → Axiom R q w m

  none_yet : Upto 0
  none_yet zero l = tt
  none_yet (suc m) l = absurd (omega arith)

  one_more : (k : ℕ) → Upto k → Axiom R q w (suc k) → Upto (suc k)
  one_more k u a m l = elim (cases_eq m (suc k)) [
    | inl e ↦ subst (λ z. Axiom R q w z) (sym e) a
    | inr n ↦ u m (omega arith)
  ]

  past_the_last : (m : ℕ) → 5 < m → Axiom R q w m
  past_the_last zero l = absurd (omega arith)
  past_the_last (suc zero) l = absurd (omega arith)
  past_the_last (suc (suc zero)) l = absurd (omega arith)
  past_the_last (suc (suc (suc zero))) l = absurd (omega arith)
  past_the_last (suc (suc (suc (suc zero)))) l = absurd (omega arith)
  past_the_last (suc (suc (suc (suc (suc zero))))) l = absurd (omega arith)
  past_the_last (suc (suc (suc (suc (suc (suc m)))))) l = tt

  -- What a number says of the axioms: 0 that all hold, another that those before it hold and it fails.
  pub data Judged : ℕ → Type 0 where
    all_hold : ((m : ℕ) → Axiom R q w m) → Judged 0
    fails : (k : ℕ) → Upto k → (Axiom R q w (suc k) → ⊥) → Judged (suc k)

  -- One test more: it fails, or the rest of the tests judge.
  one_test : (k : ℕ) (t : Bool) (rest : ℕ) → Upto k → Decides t (Axiom R q w (suc k)) → (Upto (suc k) → Judged rest) → Judged (cond t rest (suc k))
  one_test k true rest u d f = f (one_more k u (d.0 refl))
  one_test k false rest u d f = Judged.fails k u (λ a. false≢true (d.1 a))

  -- A number that judges is 0 exactly when all hold.
  zero_is : (v : ℕ) → Judged v → (v ≡ 0) ↔ Axioms R q w
  zero_is v (Judged.all_hold h) = (λ _. record { path = h 1; order = h 2; source = h 3; inst_order = h 4; load_value = h 5 }, λ _. refl)
  zero_is v (Judged.fails k u n) = (λ e. absurd (omega arith), λ a. absurd (n (holds a (suc k))))
    where
      holds : Axioms R q w → (m : ℕ) → Axiom R q w m
      holds a zero = tt
      holds a (suc zero) = a.path
      holds a (suc (suc zero)) = a.order
      holds a (suc (suc (suc zero))) = a.source
      holds a (suc (suc (suc (suc zero)))) = a.inst_order
      holds a (suc (suc (suc (suc (suc zero))))) = a.load_value
      holds a (suc (suc (suc (suc (suc (suc m)))))) = tt

  -- It is another number exactly when that axiom is the first to fail.
  number_is : (v n : ℕ) → Judged v → (v ≡ suc n) ↔ (Upto n × (Axiom R q w (suc n) → ⊥))
  number_is v n (Judged.all_hold h) = (λ e. absurd (omega arith), λ x. absurd (x.1 (h (suc n))))
  number_is v n (Judged.fails k u f) = (
    λ e. subst (λ z. Upto z × (Axiom R q w (suc z) → ⊥)) (suc_same e) (u, f),
    λ x. elim (cases_order k n) [
      | inl e ↦ omega arith
      | inr (inl l) ↦ absurd (f (x.0 (suc k) (omega arith)))
      | inr (inr l) ↦ absurd (x.1 (u (suc n) (omega arith)))
    ],
  )
    where
      suc_same : suc k ≡ suc n → k ≡ n
      suc_same e = omega arith

-- The verdict judges, where the fourth test is the rule's.
verdict_judges : (keeps : List Event → ℕ → ℕ → Bool) (R : Rule) (q : Litmus) (w : Execution) →
    (Order q w → Decides (inst_order_test q w keeps) (InstOrder q w R)) → Judged R q w (verdict keeps q w)
unfolding verdict
verdict_judges keeps R q w inst =
    one_test R q w 0 (path_test q w) _ (none_yet R q w) (path_test_is q w) (λ u1.
    one_test R q w 1 (order_test q w) _ u1 (order_test_is q w) (λ u2.
    one_test R q w 2 (source_test q w) _ u2 (source_test_is q w) (λ u3.
    one_test R q w 3 (inst_order_test q w keeps) _ u3 (inst (u3 2 (omega arith))) (λ u4.
    one_test R q w 4 (load_value_test q w) _ u4 (load_value_test_is q w (u4 2 (omega arith))) (λ u5.
    Judged.all_hold (λ m. elim (cases_lt 5 m) [ inl l ↦ past_the_last R q w m l | inr l ↦ u5 m l ]))))))

-- So it accepts exactly what the axioms allow, and names the first that fails.
both_laws : (keeps : List Event → ℕ → ℕ → Bool) (R : Rule) →
    ((q : Litmus) (w : Execution) → Order q w → Decides (inst_order_test q w keeps) (InstOrder q w R)) →
    AcceptsExactly keeps R × NamesTheFirstThatFails keeps R
both_laws keeps R inst = (
  λ q w. zero_is R q w (verdict keeps q w) (verdict_judges keeps R q w (inst q w)),
  λ q w n. number_is R q w (verdict keeps q w) n (verdict_judges keeps R q w (inst q w)),
)

pub verdicts_are_the_axioms : VerdictsAreTheAxioms
verdicts_are_the_axioms keeps forward = both_laws keeps (tested keeps) (λ q w O. inst_order_test_is keeps forward q w O)

pub gam_verdicts_are_the_axioms : GAMVerdictsAreTheAxioms
gam_verdicts_are_the_axioms = both_laws gam_keeps gam (λ q w O.
    Decides-like (inst_order_test q w gam_keeps)
    (inst_order_moves (tested gam_keeps) gam q w (λ es i j. gam_earlier (instruction_of es) (cell_of es) i j)
    (λ p i j l k. (gam_keeps_is (events q w p) i j (omega (arith, length_events q w p))).1 k))
    (inst_order_moves gam (tested gam_keeps) q w gam_keeps_forward
    (λ p i j l k. (gam_keeps_is (events q w p) i j (omega (arith, length_events q w p))).0 k))
    (inst_order_test_is gam_keeps gam_keeps_forward q w O))

pub sc_verdicts_are_the_axioms : SCVerdictsAreTheAxioms
sc_verdicts_are_the_axioms = both_laws sc_keeps sc (λ q w O.
    Decides-like (inst_order_test q w sc_keeps)
    (inst_order_moves (tested sc_keeps) sc q w (λ es i j x. x.earlier) (λ p i j _ k. (sc_keeps_is (events q w p) i j).1 k))
    (inst_order_moves sc (tested sc_keeps) q w sc_keeps_forward (λ p i j _ k. (sc_keeps_is (events q w p) i j).0 k))
    (inst_order_test_is sc_keeps sc_keeps_forward q w O))
