use Rattle.std.proofs.Common.{◌<◌, length, ap, ◌∙◌, arith}
use Rattle.machine.specs.Steps.{core_changed, removed}
use Rattle.machine.proofs.Cores.{core_read, core_put}
use Rattle.machine.proofs.processor.Processors.make.Goals as goal

pub returns : goal.returns
returns c =
    let s = c.args.self.now in
    let p = c.args.processor in
    let d = c.index-self-processor.result in
    let l : p < length s.rows = omega (arith, s.four) in
    record {
      value = c.make-removed.ensures.value ∙ ap (λ x. removed c.args.change.cut (length x.entries)) (core_read s.rows p d l);
      cores = core_put (λ x. core_changed x c.args.position c.args.change) s.rows p d c.make-removed.new.self l c.make-removed.ensures.core;
    }
