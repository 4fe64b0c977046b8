use Rattle.std.proofs.Common.{◌+◌, ◌*◌, ◌<◌, ◌≤◌, ◌⊎◌, [], get_or, drop, sym, ap, ◌∙◌, inl, inr, arith}
use Rattle.std.proofs.lemmas.List.{length-set}
use Rattle.fields.proofs.Chunks.{chunk_next, split_whole}
use Rattle.question.specs.Cells.{cells_from}
use Rattle.question.proofs.Cells.{cells_more, cells_fault, cells_all}
use Rattle.question.proofs.read.read_cells.Goals as goal
use Rattle.question.proofs.read.read_cells.Goals.{then-address-least-via-then-address-least, then-address-least-via-else-address-least+then-address-gt15}

pub returns-then-address-least : goal.returns-then-address-least
returns-then-address-least c =
    let b = c.args.contents.now in
    let rs = c.in_ok-records.records.now in
    let i = c.loop-address.address-index in
    let w = split_whole 3 16 b rs c.in_ok-records.ensures in
    let n = chunk_next 3 b rs i w.chunks w.count c.loop-address-test.true in
    let r = get_or rs i [] in
    let out : (get_or r 0 0 < c.loop-address.least) ⊎ (16 ≤ get_or r 0 0) =
    elim c.then-address-least.branch [
      | then-address-least-via-then-address-least w ↦ inl w.if-address-least.true
      | then-address-least-via-else-address-least+then-address-gt15 w ↦ inr w.if-address-gt15.true
    ] in
    let f = cells_fault r (drop (3 * (i + 1)) b) c.loop-address.cells c.loop-address.least n.1 out in
    rw (w.tested, w.whole) (sym (c.loop-address.invariant.1 ∙ ap (cells_from c.loop-address.least c.loop-address.cells) n.0 ∙ f))

pub loop-address-preserved : goal.loop-address-preserved
loop-address-preserved c =
    let b = c.args.contents.now in
    let rs = c.in_ok-records.records.now in
    let i = c.loop-address.address-index in
    let w = split_whole 3 16 b rs c.in_ok-records.ensures in
    let n = chunk_next 3 b rs i w.chunks w.count c.loop-address-test.true in
    let m = cells_more (get_or rs i []) (drop (3 * (i + 1)) b) c.loop-address.cells c.loop-address.least n.1 c.if-address-least.false (omega arith) in
    rw (c.from.ensures, c.from_be_bytes.ensures)
    (length-set c.loop-address.cells _ _ ∙ c.loop-address.invariant.0, c.loop-address.invariant.1 ∙ ap (cells_from c.loop-address.least c.loop-address.cells) n.0 ∙ m)

pub returns : goal.returns
returns c =
    let b = c.args.contents.now in
    let w = split_whole 3 16 b c.in_ok-records.records.now c.in_ok-records.ensures in
    let all = cells_all b c.loop-address.cells c.loop-address.least (3 * c.loop-address.address-index) (omega arith) in
    rw (w.tested, w.whole) (sym (c.loop-address.invariant.1 ∙ all))
