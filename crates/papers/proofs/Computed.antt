-- The worked papers, by computation.
use Rattle.std.proofs.Common.{◌≡◌, List, [], ◌∷◌, map, refl}
use Rattle.std.specs.List.{AllByRecursion}
use Rattle.search.specs.Search.{nearest, first}
use Rattle.fields.specs.Rows.{read_within, read_row}
use Rattle.question.specs.Cells.{cells_from}
use Rattle.question.specs.Codes.{code_from}
use Rattle.question.specs.Instructions.{instruction_of}
use Rattle.witness.specs.Bytes.{bytes_of}
use Rattle.witness.specs.Records.{sources_from, accesses_from}
use Rattle.events.specs.Events.{events_upto}
use Rattle.events.specs.Sources.{loads_upto, loads_before}
use Rattle.ordering.specs.Tests.{some_below, sa_mem_st, sa_st_ld, sa_ld_ld, reg_raw, br_st, addr_st, fence_ord, gam_keeps, sc_keeps}
use Rattle.checker.specs.Tests.{all_below, reached, path_test, order_test, source_test, inst_order_test, load_value_test}
use Rattle.checker.specs.Verdict.{verdict}
use Rattle.machine.specs.Steps.{step_outcome, run_all, fetch_outcome, act_outcome}
use Rattle.runs.specs.Records.{answers}
use Rattle.runs.specs.StepBytes.{steps_of}
use Rattle.completeness.specs.StepsFor.{first_accepted, settle, carry_out, steps_for}
use Rattle.papers.specs.Worked.{Row, papers, found, told, WorkedPapersComeOut, EachWorkedPaperComesOut}

pub worked_papers : WorkedPapersComeOut
unfolding nearest first read_row read_within cells_from code_from instruction_of bytes_of sources_from accesses_from events_upto loads_upto loads_before some_below sa_mem_st sa_st_ld sa_ld_ld reg_raw br_st addr_st fence_ord gam_keeps sc_keeps all_below reached path_test order_test source_test inst_order_test load_value_test verdict step_outcome run_all fetch_outcome act_outcome answers steps_of first_accepted settle carry_out steps_for
worked_papers = refl

-- Papers that come out together come out one by one.
each_row : (rows : List Row) → map found rows ≡ map told rows → AllByRecursion (λ r. found r ≡ told r) rows
each_row [] h = tt
each_row (r ∷ rows) h = (cc, each_row rows cc)

pub each_worked_paper : EachWorkedPaperComesOut
each_worked_paper = each_row papers worked_papers
