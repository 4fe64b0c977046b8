-- What a witness means: a candidate execution.
use Rattle.std.specs.Prelude.{ℕ, ◌≤◌, List, length}
use Rattle.std.specs.List.{AllByRecursion}
use Rattle.witness.specs.declared.record.Access.{Access}
use Rattle.witness.specs.declared.record.Source.{Source}

-- The places that each processor ran, the source of each load by processor then position, and the accesses in memory order.
pub record Execution : Type 0 where
  pub paths : List (List ℕ)
  pub sources : List Source
  pub order : List Access

-- One to four paths of at most sixteen places, at most 64 sources, at most 64 accesses.
pub record Within (w : Execution) : Type 0 where
  pub some_path : 1 ≤ length w.paths
  pub few_paths : length w.paths ≤ 4
  pub short_paths : AllByRecursion (λ p. length p ≤ 16) w.paths
  pub few_sources : length w.sources ≤ 64
  pub few_accesses : length w.order ≤ 64
