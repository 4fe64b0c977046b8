use Rattle.std.proofs.Common.{◌≡◌, ℕ, length, rules, sym, ap, ◌∙◌, arith}
use Rattle.std.specs.List.{count_by}
use Rattle.std.proofs.lemmas.List.{take_all}
use Rattle.std.proofs.iter.runs.Made.{chains}
use Rattle.instructions.specs.Kinds.{loads}
use Rattle.question.specs.Litmus.{instruction_at}
use Rattle.events.proofs.LoadCounts.{loads_counted}
use Rattle.events.proofs.loads.path_loads.Goals as goal

pub returns : goal.returns
returns c =
    let places = c.args.places.now in
    let t = λ (p : ℕ). loads (instruction_at c.args.code.now p) in
    let counted : c.count.result ≡ count_by t places = search (rules, chains) in
    counted ∙ ap (count_by t) (sym (take_all (length places) places (omega arith))) ∙ sym (loads_counted c.args.code.now places (length places) (omega arith))
