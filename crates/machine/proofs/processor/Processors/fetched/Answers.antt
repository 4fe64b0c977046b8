use Rattle.std.proofs.Common.{map, sym, arith}
use Rattle.std.proofs.lemmas.List.{length-map, set_past}
use Rattle.machine.specs.Steps.{core_fetched}
use Rattle.machine.specs.Views.{core_of}
use Rattle.machine.proofs.Cores.{core_put}
use Rattle.machine.proofs.processor.Processors.fetched.Goals as goal

pub returns-then-processor-lt4 : goal.returns-then-processor-lt4
returns-then-processor-lt4 c =
    let s = c.args.self.now in
    core_put (λ x. core_fetched x c.args.entry) s.rows c.args.processor c.index-self-processor.result c.fetched.new.self (omega (arith, s.four)) c.fetched.ensures

pub returns-else-processor-lt4 : goal.returns-else-processor-lt4
returns-else-processor-lt4 c =
    let s = c.args.self.now in
    sym (set_past (map core_of s.rows) c.args.processor _ (rw (length-map s.rows core_of) (omega (arith, s.four))))
