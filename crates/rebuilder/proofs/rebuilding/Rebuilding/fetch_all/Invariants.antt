-- The processors that are left give the result.
use Rattle.std.proofs.Common.{◌≡◌, length, drop}
use Rattle.std.specs.List.{range_with_len, flat_map}
use Rattle.rebuilder.specs.Progress.{runs}
use Rattle.rebuilder.specs.Views.{progress_of, row_fetches}
use Rattle.rebuilder.proofs.rebuilding.Rebuilding.fetch_all.Given as goal

abbrev pub invariant-loop-processor : goal.invariant-loop-processor
invariant-loop-processor l =
    let f = row_fetches l.rows in
    let n = l.fn.self.processors in
    runs (progress_of l.self) (flat_map f (drop (length l.yielded) (range_with_len 0 n))) ≡ runs (progress_of l.initial.self) (flat_map f (range_with_len 0 n))
