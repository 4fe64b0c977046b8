-- The state of a rebuild has as many processors as the rebuild.
use Rattle.std.proofs.Common.{◌≡◌, ℕ, List, map, length, ap, arith}
use Rattle.std.proofs.lemmas.List.{length-map, length-take}
use Rattle.std.specs.List.{range_with_len, flat_map}
use Rattle.machine.specs.declared.step.Step.{Step}
use Rattle.machine.specs.Views.{core_of, run_question}
use Rattle.machine.proofs.Cores.{few_processors}
use Rattle.completeness.specs.StepsFor.{entry_steps, local_steps}
use Rattle.rebuilder.specs.Progress.{lowest_first, processors_of}
use Rattle.rebuilder.specs.Views.{progress_of}
use Rattle.rebuilder.specs.declared.rebuilding.Rebuilding.{Rebuilding}

-- The local steps of one processor.
abbrev pub processor_steps : ℕ → List Step
processor_steps p = flat_map (entry_steps p) (range_with_len 0 16)

as_many_processors : (r : Rebuilding) → r.processors ≡ length (progress_of r).state.cores
unfolding progress_of
as_many_processors r =
    let rows = r.run.processors.rows in
    omega (arith, length-take (length (run_question r.run).code) (map core_of rows), length-map rows core_of, r.run.processors.four, few_processors r.run.question.now, r.all)

-- So its local steps are those of its state.
pub local_steps_of : (r : Rebuilding) → local_steps r.processors ≡ lowest_first (progress_of r)
unfolding lowest_first
local_steps_of r = ap local_steps (as_many_processors r)

-- A rebuild has as many processors as its question.
pub as_many : (r : Rebuilding) → r.processors ≡ processors_of (progress_of r)
unfolding processors_of progress_of
as_many r = r.all
