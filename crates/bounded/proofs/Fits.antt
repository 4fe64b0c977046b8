-- A bounded vector has at most as many elements as its capacity.
use Rattle.std.proofs.Common.{ℕ, ◌≤◌, length, arith}
use Rattle.std.proofs.lemmas.List.{length-take}
use Rattle.bounded.specs.declared.vector.Bounded.{Bounded}
use Rattle.bounded.specs.Items.{items}

pub items_fit : {T : Type 0} {N : ℕ} (v : Bounded T N) → length (items v) ≤ N
items_fit v = omega (arith, length-take v.len v.slots)
