-- What a bounded vector stands for: the list of its elements.
use Rattle.std.specs.Prelude.{ℕ, List, take}
use Rattle.bounded.specs.declared.vector.Bounded.{Bounded}

-- The elements, oldest first.
abbrev pub items : {T : Type 0} {N : ℕ} → Bounded T N → List T
items v = take v.len v.slots
