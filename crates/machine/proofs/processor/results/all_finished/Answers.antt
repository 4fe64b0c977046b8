use Rattle.std.proofs.Common.{ap, ◌∙◌, rules, arith}
use Rattle.std.specs.List.{zip, range_with_len, list_all}
use Rattle.std.proofs.lemmas.Iterator.{YieldsList-from_slice, YieldsList-from_range, YieldsList-from_zip}
use Rattle.std.proofs.lemmas.Iterator.Search.{all_from_yields_List}
use Rattle.question.specs.Litmus.{code_at}
use Rattle.question.specs.Views.{litmus_of}
use Rattle.machine.proofs.Closing.{finished_at, finished_list}
use Rattle.machine.proofs.processor.results.all_finished.Goals as goal

pub returns : goal.returns
returns c =
    let q = litmus_of c.args.question.now in
    let rows = c.args.rows.now in
    let code = code_at q in
    all_from_yields_List (finished_at code) c.all.new.self _ c.all.result c.all.ensures.ran
    (YieldsList-from_zip (YieldsList-from_slice rows (search rules)) (YieldsList-from_range 0 c.processors.result c.processors.result (search rules) (omega arith)))
    (λ x b r k. search rules)
    ∙ ap (λ n. list_all (finished_at code) (zip rows (range_with_len 0 n))) c.processors.ensures
    ∙ finished_list code q.code rows 0 (λ k l. ap code (omega arith))
