use Rattle.std.proofs.Common.{take, ap, ◌∙◌, rules}
use Rattle.search.proofs.Chains.{found_back, nearest_in_front}
use Rattle.search.proofs.nearest_earlier.Goals as goal

pub returns-clause-value : goal.returns-clause-value
returns-clause-value g c =
    let p = λ (x : g.row.T.Denot). g.T.Matches.hits x c.args.key.now in
    let w = c.rposition.ensures.runs in
    nearest_in_front p c.args.items.now c.args.before c.iter.result.rest.now c.rposition.result (c.iter.ensures.rest ∙ ap (λ n. take n c.args.items.now) c.min.ensures)
    (found_back w.0 _ _ p c.iter.result.rest.now (λ x r q k. search rules) (λ x r q k. search rules) c.rposition.result (search rules) (search rules) w.2)
