use Rattle.machine_laws.proofs.Computed.{store_then_load, early_load, empty_question, full_buffer, reduced_address}
use Rattle.machine_laws.proofs.worked.worked_runs_come_out.Goals as goal

pub returns : goal.returns
returns c = record { store_then_load = store_then_load; early_load = early_load; empty = empty_question; full_buffer = full_buffer; reduced_address = reduced_address }
