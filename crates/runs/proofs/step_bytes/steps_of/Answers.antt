use Rattle.std.proofs.Common.{◌≡◌, ◌/◌, ◌%◌, ◌≤◌, length, ◌∙◌, rules, arith}
use Rattle.std.proofs.lemmas.List.{take_all}
use Rattle.runs.proofs.Steps.{steps_cut, steps_whole}
use Rattle.runs.proofs.step_bytes.steps_of.Goals as goal

pub returns-in_default : goal.returns-in_default
returns-in_default c = steps_cut c.args.bytes.now (λ e. absurd (omega (arith, e, c.in_default.len_at_least, c.as_chunks.ensures.back_len)))

pub returns : goal.returns
returns c =
    let chunks = c.as_chunks.result.0.now in
    let whole : length c.args.bytes.now % 4 ≡ 0 = search rules in
    let all : length chunks ≤ c.loop-chunk.chunk-index = search rules in
    steps_whole (length c.args.bytes.now / 4) c.args.bytes.now _ (omega arith)
    (c.loop-chunk.invariant ∙ take_all c.loop-chunk.chunk-index chunks all ∙ c.as_chunks.ensures.front)
