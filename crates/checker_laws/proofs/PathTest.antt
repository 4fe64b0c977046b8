-- The first test passes exactly when the paths run through.
use Rattle.std.proofs.Common.{◌≡◌, ℕ, ◌<◌, ◌&&◌, eqb, ltb, List, length, Decides}
use Rattle.std.proofs.lemmas.Bool.Decides.{Decides-and, Decides-like, Decides-eqb, Decides-ltb}
use Rattle.instructions.specs.declared.instruction.Instruction.{Instruction}
use Rattle.question.specs.Litmus.{Litmus, code_at}
use Rattle.witness.specs.Execution.{Execution}
use Rattle.events.specs.declared.event.Event.{Event}
use Rattle.events.specs.Events.{at}
use Rattle.events.specs.Sources.{loads_before, events}
use Rattle.checker.specs.Axioms.{leads_to, RunsThrough, Path}
use Rattle.checker.specs.Tests.{all_below, place_fits, runs_through, path_test}
use Rattle.checker_laws.proofs.Bounds.{decides_all}

pub runs_through_is : (code : List Instruction) (es : List Event) → Decides (runs_through code es) (RunsThrough code es)
runs_through_is code es =
    Decides-like (runs_through code es)
    (λ x. record { each = x.0; ends = x.1 })
    (λ x. (x.each, x.ends))
    (Decides-and (all_below (place_fits code es) (length es)) (eqb (leads_to es (length es)) (length code))
    (decides_all (place_fits code es) (λ i. ((at es i).place ≡ leads_to es i) × ((at es i).place < length code)) (length es) (λ i _.
    Decides-and (eqb (at es i).place (leads_to es i)) (ltb (at es i).place (length code))
    (Decides-eqb (at es i).place (leads_to es i)) (Decides-ltb (at es i).place (length code))))
    (Decides-eqb (leads_to es (length es)) (length code)))

pub path_test_is : (q : Litmus) (w : Execution) → Decides (path_test q w) (Path q w)
unfolding path_test
path_test_is q w =
    let n = length q.code in
    let runs = λ (p : ℕ). runs_through (code_at q p) (events q w p) in
    let counted = eqb (length w.sources) (loads_before q w n) in
    Decides-like (eqb (length w.paths) n && (all_below runs n && counted))
    (λ x. record { paths = x.0; runs = x.1.0; records = x.1.1 })
    (λ x. (x.paths, (x.runs, x.records)))
    (Decides-and (eqb (length w.paths) n) (all_below runs n && counted) (Decides-eqb (length w.paths) n)
    (Decides-and (all_below runs n) counted
    (decides_all runs (λ p. RunsThrough (code_at q p) (events q w p)) n (λ p _. runs_through_is (code_at q p) (events q w p)))
    (Decides-eqb (length w.sources) (loads_before q w n))))
