-- A step as bytes.
use Rattle.std.specs.Prelude.{ℕ, List, [], ◌∷◌}
use Rattle.machine.specs.declared.step.Step.{Step}

-- The four bytes of a step.
abbrev pub step_bytes : Step → List ℕ
step_bytes st = st.rule ∷ st.processor ∷ st.position ∷ st.guess ∷ []
