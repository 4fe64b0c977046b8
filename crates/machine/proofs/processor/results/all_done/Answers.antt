use Rattle.std.proofs.Common.{◌∙◌, rules}
use Rattle.std.proofs.lemmas.Iterator.{YieldsList-from_slice}
use Rattle.std.proofs.lemmas.Iterator.Search.{all_from_yields_List}
use Rattle.rules.specs.declared.entry.Entry.{Entry}
use Rattle.machine.proofs.Closing.{done_list}
use Rattle.machine.proofs.processor.results.all_done.Goals as goal

pub returns : goal.returns
returns c =
    all_from_yields_List (λ (e : Entry). e.done) _ _ c.all.result c.all.ensures.ran (YieldsList-from_slice c.args.entries.now cc) (λ x b q k. search rules) ∙ done_list c.args.entries.now
