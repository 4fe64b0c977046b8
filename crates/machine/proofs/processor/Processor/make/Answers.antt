use Rattle.std.proofs.Common.{◌≡◌, ◌-◌, length, take, ap, ◌∙◌, arith}
use Rattle.bounded.specs.Items.{items}
use Rattle.std.proofs.lemmas.List.{length-take, length-set}
use Rattle.machine.proofs.processor.Processor.make.Goals as goal

pub overflow_sub-result : goal.overflow_sub-result
overflow_sub-result c =
    let ys = items c.set.new.self in
    omega (arith, ap length c.truncate.ensures, length-take c.in-Some.cut.keep ys)

pub returns-in-Some : goal.returns-in-Some
returns-in-Some c =
    let xs = items c.args.self.now.entries in
    let ys = items c.set.new.self in
    let k = c.in-Some.cut.keep in
    let i = c.args.position in
    let e = c.args.change.entry in
    let count : c.len-before.result - c.len.result ≡ length xs - k =
    omega (arith, ap length c.truncate.ensures, length-take k ys, ap length c.set.ensures.items, length-set xs i e) in
    record {
      value = rw c.in-Some.is count;
      core = rw c.in-Some.is (ap (λ es. record { counter = c.in-Some.cut.counter; entries = es }) (c.truncate.ensures ∙ ap (take k) c.set.ensures.items));
    }
