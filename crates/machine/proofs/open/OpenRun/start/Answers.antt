use Rattle.std.proofs.Common.{map, length, take, refl, ap, ◌∙◌}
use Rattle.question.specs.Views.{litmus_of}
use Rattle.machine.specs.State.{start_cell}
use Rattle.machine.proofs.Cores.{few_processors, same_state, all_empty}
use Rattle.machine.proofs.open.OpenRun.start.Goals as goal

pub returns : goal.returns
returns g c =
    let q = c.args.question.now in
    let codes = (litmus_of q).code in
    record {
      question = refl;
      state = same_state (ap (take (length codes)) c.new.ensures ∙ all_empty codes 4 (few_processors q)) c.new-order.ensures (c.write_start.ensures ∙ ap (map start_cell) c.start.ensures);
    }
