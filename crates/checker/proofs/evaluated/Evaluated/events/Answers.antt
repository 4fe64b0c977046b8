use Rattle.std.proofs.Common.{◌≡◌, ◌<◌, ◌≤◌, length, get_or, ap, ◌∙◌, arith}
use Rattle.std.proofs.lemmas.Grind.{common_steps}
use mathlib.Core.Logic.{∥∥₁_elim}
use Rattle.bounded.specs.Items.{items}
use Rattle.events.specs.Sources.{events}
use Rattle.checker.specs.Views.{asked, stated}
use Rattle.checker.proofs.Evaluations.{row_has_events, no_row_no_events}
use Rattle.checker.proofs.RowSets.{events_set}
use Rattle.checker.proofs.evaluated.Evaluated.events.Goals as goal

pub returns-in-Some-clause-value : goal.returns-in-Some-clause-value
returns-in-Some-clause-value c =
    let s = c.args.self.now in
    let rows = items s.paths in
    let p = c.args.processor in
    let d = c.in-Some.path.now in
    let within : p < length rows = omega (arith, c.in-Some.ensures.lookup.3.0, ap length c.as_slice.ensures) in
    let row : d ≡ get_or rows p d = c.in-Some.ensures.lookup.1 ∙ ap (λ xs. get_or xs p d) c.as_slice.ensures in
    ∥∥₁_elim s.evaluation (events_set _ _) (λ e.
    let known : items d.events ≡ events (asked s) (stated s) p = ap (λ x. items x.events) row ∙ row_has_events (asked s) (stated s) rows e p d within in
    grind (arith, common_steps))

pub returns-in-None-clause-value : goal.returns-in-None-clause-value
returns-in-None-clause-value c =
    let s = c.args.self.now in
    let rows = items s.paths in
    let past : length rows ≤ c.args.processor = omega (arith, c.in-None.ensures.lookup.3, ap length c.as_slice.ensures) in
    ∥∥₁_elim s.evaluation (events_set _ _) (λ e. no_row_no_events (asked s) (stated s) rows e c.args.processor past)
