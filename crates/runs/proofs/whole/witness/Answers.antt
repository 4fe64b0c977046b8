use Rattle.std.proofs.Common.{◌≡◌, ℕ, ◌≤◌, length, replicate, ◌∙◌, arith}
use Rattle.machine.specs.Views.{closed_state}
use Rattle.witness.specs.Bytes.{bytes_of}
use Rattle.witness.proofs.Within.{within, witnesses_have_at_most_466_bytes}
use Rattle.std.proofs.lemmas.Result.{IfOk-weaker}
use Rattle.runs.proofs.Areas.{answer_with_room, area_with_room, front_of_area}
use Rattle.runs.proofs.whole.witness.Goals as goal

pub returns-in-Ok : goal.returns-in-Ok
returns-in-Ok g c f =
    let run = closed_state g.M.Memory.cells c.args.run.now in
    let few : length (bytes_of run.execution) ≤ 466 = witnesses_have_at_most_466_bytes run.execution (within c.args.run.now.witness) in
    let v = answer_with_room run (replicate 512 0) f (omega arith) in
    let n : c.in-Ok.length ≡ length (bytes_of run.execution) = cc (c.witness.ensures.value, c.in-Ok.is, v) in
    let a = c.witness.ensures.area ∙ area_with_room run (replicate 512 0) f (omega arith) in
    IfOk-weaker c.from_slice.result _ _ (λ x h. h ∙ front_of_area (bytes_of run.execution) _ _ c.in-Ok.length n a) c.from_slice.ensures.items

pub returns-in-Err : goal.returns-in-Err
returns-in-Err g c f =
    let run = closed_state g.M.Memory.cells c.args.run.now in
    let few : length (bytes_of run.execution) ≤ 466 = witnesses_have_at_most_466_bytes run.execution (within c.args.run.now.witness) in
    let v = answer_with_room run (replicate 512 0) f (omega arith) in
    let z : ◌≡◌ {A = ℕ} 0 1 = cc (c.witness.ensures.value, c.in-Err.is, v) in
    absurd (omega arith)
