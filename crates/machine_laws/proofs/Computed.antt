-- The worked runs, by computation.
use Rattle.std.proofs.Common.{refl}
use Rattle.search.specs.Search.{nearest, first}
use Rattle.witness.specs.Bytes.{bytes_of}
use Rattle.machine.specs.Steps.{step_outcome, run_all, fetch_outcome, act_outcome}
use Rattle.machine_laws.specs.Worked.{StoreThenLoadReadsTheStore, EarlyLoadIsRemoved, EmptyQuestionFinishesAtOnce, SeventeenthFetchIsRefused, Address17IsCell1}

pub store_then_load : StoreThenLoadReadsTheStore
unfolding step_outcome run_all fetch_outcome act_outcome nearest first bytes_of
store_then_load = (refl, refl, refl)

pub early_load : EarlyLoadIsRemoved
unfolding step_outcome run_all fetch_outcome act_outcome nearest first
early_load = (refl, refl, refl)

pub empty_question : EmptyQuestionFinishesAtOnce
unfolding bytes_of
empty_question = (refl, refl)

pub full_buffer : SeventeenthFetchIsRefused
unfolding step_outcome run_all fetch_outcome act_outcome nearest first
full_buffer = refl

pub reduced_address : Address17IsCell1
unfolding step_outcome run_all fetch_outcome act_outcome nearest first
reduced_address = refl
