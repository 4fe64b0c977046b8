-- The worked verdicts, by computation.
use Rattle.std.proofs.Common.{◌≡◌, List, [], ◌∷◌, map, refl}
use Rattle.std.specs.List.{AllByRecursion}
use Rattle.search.specs.Search.{nearest}
use Rattle.events.specs.Events.{events_upto}
use Rattle.events.specs.Sources.{loads_upto, loads_before}
use Rattle.ordering.specs.Tests.{some_below, sa_mem_st, sa_st_ld, sa_ld_ld, reg_raw, br_st, addr_st, fence_ord, gam_keeps, sc_keeps}
use Rattle.checker.specs.Tests.{all_below, reached, path_test, order_test, source_test, inst_order_test, load_value_test}
use Rattle.checker.specs.Verdict.{verdict}
use Rattle.checker_laws.specs.Worked.{Case, given, expected, cases, WorkedVerdictsComeOut, EachWorkedVerdictComesOut}

pub worked_verdicts : WorkedVerdictsComeOut
unfolding nearest events_upto loads_upto loads_before some_below sa_mem_st sa_st_ld sa_ld_ld reg_raw br_st addr_st fence_ord gam_keeps sc_keeps all_below reached path_test order_test source_test inst_order_test load_value_test verdict
worked_verdicts = refl

-- Rows that come out together come out one by one.
each_row : (rows : List Case) → map given rows ≡ map expected rows → AllByRecursion (λ c. given c ≡ expected c) rows
each_row [] h = tt
each_row (c ∷ rows) h = (cc, each_row rows cc)

pub each_worked_verdict : EachWorkedVerdictComesOut
each_worked_verdict = each_row cases worked_verdicts
