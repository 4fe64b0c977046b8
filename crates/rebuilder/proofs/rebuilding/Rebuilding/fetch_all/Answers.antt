use Rattle.std.proofs.Common.{◌+◌, length, drop, sym, ap, ◌∙◌, arith}
use Rattle.std.specs.List.{range_with_len, flat_map}
use Rattle.std.proofs.lemmas.Iterator.{YieldsList-from_range, YieldsList-from_slice, YieldsList-from_zip}
use Rattle.std.proofs.lemmas.Iterator.Consumers.{YieldsList-turn, YieldsList-end}
use Rattle.std.proofs.lemmas.List.{length_push}
use Rattle.rebuilder.specs.Progress.{runs}
use Rattle.rebuilder.specs.Views.{path_fetches, progress_of, row_fetches}
use Rattle.rebuilder.proofs.Fetching.{next_row, no_row}
use Rattle.rebuilder.proofs.GoesOn.{few_steps, runs_none, runs_both}
use Rattle.rebuilder.proofs.Processors.{as_many}
use Rattle.rebuilder.proofs.rebuilding.Rebuilding.fetch_all.Goals as goal

pub loop-processor-preserved : goal.loop-processor-preserved
loop-processor-preserved c =
    let n = c.args.self.now.processors in
    let rows = c.args.rows.now in
    let f = row_fetches rows in
    let k = length c.loop-processor.yielded in
    let p = progress_of c.loop-processor.self in
    let turn =
    YieldsList-turn (YieldsList-from_zip (YieldsList-from_range 0 n n (cc) (omega arith)) (YieldsList-from_slice rows cc)) c.loop-processor.yielded c.loop-processor.processor-iterator c.loop-processor.yielded_by _ c.next.new.self
    (c.in-Some.processor, c.in-Some.row) c.in-Some.is c.next.ensures.steps in
    ap (λ j. runs (progress_of c.fetch.new.self) (flat_map f (drop j (range_with_len 0 n)))) (length_push c.loop-processor.yielded (c.in-Some.processor, c.in-Some.row))
    ∙ ap (λ v. runs v (flat_map f (drop (k + 1) (range_with_len 0 n)))) (c.fetch.ensures ∙ ap (λ es. runs p (path_fetches c.in-Some.processor es)) c.as_slice.ensures)
    ∙ runs_both p _ _
    ∙ sym (ap (runs p) (next_row rows n k (c.in-Some.processor, c.in-Some.row.now) turn))
    ∙ c.loop-processor.invariant

pub returns : goal.returns
returns c =
    let n = c.args.self.now.processors in
    let rows = c.args.rows.now in
    let p = progress_of c.loop-processor.self in
    let end =
    YieldsList-end (YieldsList-from_zip (YieldsList-from_range 0 n n (cc) (omega arith)) (YieldsList-from_slice rows cc)) c.loop-processor.yielded c.loop-processor.processor-iterator c.loop-processor.yielded_by _ c.next.new.self c.in-None.is c.next.ensures.steps in
    runs_none p (few_steps c.loop-processor.self) ∙ sym (ap (runs p) (no_row rows n (length c.loop-processor.yielded) end.1)) ∙ c.loop-processor.invariant
    ∙ ap (λ m. runs (progress_of c.args.self.now) (flat_map (row_fetches rows) (range_with_len 0 m))) (as_many c.args.self.now)
