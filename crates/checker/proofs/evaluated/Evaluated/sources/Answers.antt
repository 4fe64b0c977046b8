use Rattle.std.proofs.Common.{◌≡◌, ◌<◌, ◌≤◌, length, get_or, ap, ◌∙◌, arith}
use Rattle.std.proofs.lemmas.Grind.{common_steps}
use mathlib.Core.Logic.{∥∥₁_elim}
use Rattle.bounded.specs.Items.{items}
use Rattle.events.specs.Views.{path_sources}
use Rattle.checker.specs.Views.{asked, stated}
use Rattle.checker.proofs.Evaluations.{row_has_records, no_row_no_records}
use Rattle.checker.proofs.RowSets.{sources_set}
use Rattle.checker.proofs.evaluated.Evaluated.sources.Goals as goal

pub returns-in-Some : goal.returns-in-Some
returns-in-Some c =
    let s = c.args.self.now in
    let rows = items s.paths in
    let p = c.args.processor in
    let d = c.in-Some.path.now in
    let within : p < length rows = omega (arith, c.in-Some.ensures.lookup.3.0, ap length c.as_slice.ensures) in
    let row : d ≡ get_or rows p d = c.in-Some.ensures.lookup.1 ∙ ap (λ xs. get_or xs p d) c.as_slice.ensures in
    ∥∥₁_elim s.evaluation (sources_set _ _) (λ e.
    let known : items d.sources ≡ path_sources (asked s) (stated s) p = ap (λ x. items x.sources) row ∙ row_has_records (asked s) (stated s) rows e p d within in
    grind (arith, common_steps))

pub returns-in-None : goal.returns-in-None
returns-in-None c =
    let s = c.args.self.now in
    let rows = items s.paths in
    let past : length rows ≤ c.args.processor = omega (arith, c.in-None.ensures.lookup.3, ap length c.as_slice.ensures) in
    ∥∥₁_elim s.evaluation (sources_set _ _) (λ e. no_row_no_records (asked s) (stated s) rows e c.args.processor past)
