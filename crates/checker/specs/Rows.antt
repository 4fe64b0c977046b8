-- What it means that rows are the evaluation of a witness.
use Rattle.std.specs.Prelude.{◌≡◌, List}
use Rattle.question.specs.Litmus.{Litmus}
use Rattle.witness.specs.Execution.{Execution}
use Rattle.events.specs.declared.path.PathEvents.{PathEvents}
use Rattle.events.specs.Views.{all_events, all_sources, events_of, sources_of}

-- The rows are the events and source records of the witness's paths.
pub record Evaluation (q : Litmus) (w : Execution) (rows : List PathEvents) : Type 0 where
  pub runs : events_of rows ≡ all_events q w
  pub records : sources_of rows ≡ all_sources q w
