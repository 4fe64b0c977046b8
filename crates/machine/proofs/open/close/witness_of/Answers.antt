use Rattle.std.proofs.Common.{sym, ap, ◌∙◌}
use Rattle.std.specs.Option.{option_map}
use Rattle.bounded.specs.Items.{items}
use Rattle.witness.specs.Views.{execution_of}
use Rattle.machine.proofs.Closing.{whole_witness}
use Rattle.machine.proofs.open.close.witness_of.Goals as goal

pub returns : goal.returns
returns c =
    let whole =
    whole_witness c.args.rows.now (items c.all_paths.result) (items c.all_sources.result) (items c.args.order) c.requires.some c.requires.few c.all_paths.ensures c.all_sources.ensures in
    let e = sym (ap (option_map execution_of) c.unwrap.ensures) ∙ c.from_parts.ensures ∙ whole in
    cc e
