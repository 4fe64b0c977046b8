-- What the values of the code stand for.
use Rattle.std.specs.Prelude.{ℕ, Bool, true, List, [], map, Ok, Err, Result, nat_lt, slice_index_or}
use Rattle.bounded.specs.Items.{items}
use Rattle.fields.specs.Refusals.{refusal_number}
use Rattle.fields.specs.declared.refusal.Refusal.{Refusal}
use Rattle.fields.specs.declared.refusal.Refusal.TheVariants.{KindDoesNotSuitRule}
use Rattle.events.specs.Views.{events_of}
use Rattle.events.specs.declared.event.Event.{Event}
use Rattle.events.specs.declared.path.PathEvents.{PathEvents}
use Rattle.memory.specs.declared.table.Table.{Table}
use Rattle.machine.specs.Fires.{step}
use Rattle.machine.specs.Views.{open_state, run_question}
use Rattle.machine.specs.declared.step.Step.{Step}
use Rattle.completeness.specs.StepsFor.{guess_of}
use Rattle.rebuilder.specs.Progress.{Progress}
use Rattle.rebuilder.specs.declared.rebuilding.Rebuilding.{Rebuilding}

-- How far a rebuild is.
unfoldable pub progress_of : Rebuilding → Progress
progress_of r = record { question = run_question r.run; steps = items r.steps; state = open_state (λ (t : Table). t.cells) r.run }

-- The answer to a step of rule 5 says that the entry loads: the step went, or was refused by a test after that of the kind.
abbrev pub says_loads : Result ℕ Refusal → Bool
says_loads (Ok n) = true
says_loads (Err e) = nat_lt (refusal_number KindDoesNotSuitRule) (refusal_number e)

-- The fetches of processor p's path with these events.
abbrev pub path_fetches : ℕ → List Event → List Step
path_fetches p es = map (λ e. step 1 p 0 (guess_of e)) es

-- The fetches of processor p by evaluated rows.
abbrev pub row_fetches : List PathEvents → ℕ → List Step
row_fetches rows p = path_fetches p (slice_index_or (events_of rows) p [])
