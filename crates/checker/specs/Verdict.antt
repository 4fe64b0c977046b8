-- The verdict: the number of the first test that fails, or 0.
use Rattle.std.specs.Prelude.{◌≡◌, ℕ, suc, ◌<◌, ◌≤◌, Bool, true, cond, ◌↔◌, List, [], ◌∷◌}
use Rattle.question.specs.Litmus.{Litmus}
use Rattle.witness.specs.Execution.{Execution}
use Rattle.events.specs.declared.event.Event.{Event}
use Rattle.ordering.specs.Rules.{Rule, tested, gam, sc}
use Rattle.ordering.specs.Tests.{gam_keeps, sc_keeps}
use Rattle.checker.specs.Axioms.{Axioms, Axiom}
use Rattle.checker.specs.Tests.{path_test, order_test, source_test, inst_order_test, load_value_test}

-- A test with its number.
pub record Test : Type 0 where
  pub number : ℕ
  pub passes : Bool

-- The number of the first test that fails; 0 where none does.
abbrev pub first_failing : List Test → ℕ
first_failing [] = 0
first_failing (t ∷ ts) = cond t.passes (first_failing ts) t.number

module _ (keeps : List Event → ℕ → ℕ → Bool) (q : Litmus) (w : Execution) where
  -- The tests in their order.
  abbrev pub tests : List Test
  tests =
      record { number = 1; passes = path_test q w }
      ∷ record { number = 2; passes = order_test q w }
      ∷ record { number = 3; passes = source_test q w }
      ∷ record { number = 4; passes = inst_order_test q w keeps }
      ∷ record { number = 5; passes = load_value_test q w }
      ∷ []

  -- The verdict on a witness of a question under an ordering rule.
  unfoldable pub verdict : ℕ
  verdict = first_failing tests

-- The test keeps only earlier before later.
abbrev pub Forward : (List Event → ℕ → ℕ → Bool) → Type 0
Forward keeps = (es : List Event) (i j : ℕ) → keeps es i j ≡ true → i < j

-- The verdict is 0 exactly when all axioms hold.
abbrev pub AcceptsExactly : (List Event → ℕ → ℕ → Bool) → Rule → Type 0
AcceptsExactly keeps R = (q : Litmus) (w : Execution) → (verdict keeps q w ≡ 0) ↔ Axioms R q w

-- The verdict is the number of an axiom exactly when all axioms before it hold and that one fails.
abbrev pub NamesTheFirstThatFails : (List Event → ℕ → ℕ → Bool) → Rule → Type 0
NamesTheFirstThatFails keeps R =
    (q : Litmus) (w : Execution) (n : ℕ) →
    (verdict keeps q w ≡ suc n) ↔ (((m : ℕ) → m ≤ n → Axiom R q w m) × (Axiom R q w (suc n) → ⊥))

-- Under every ordering rule, given as a test.
abbrev pub VerdictsAreTheAxioms : Type 0
VerdictsAreTheAxioms =
    (keeps : List Event → ℕ → ℕ → Bool) → Forward keeps →
    AcceptsExactly keeps (tested keeps) × NamesTheFirstThatFails keeps (tested keeps)

-- Under GAM, with the seven constraints as published.
abbrev pub GAMVerdictsAreTheAxioms : Type 0
GAMVerdictsAreTheAxioms = AcceptsExactly gam_keeps gam × NamesTheFirstThatFails gam_keeps gam

-- Under sequential consistency.
abbrev pub SCVerdictsAreTheAxioms : Type 0
SCVerdictsAreTheAxioms = AcceptsExactly sc_keeps sc × NamesTheFirstThatFails sc_keeps sc
