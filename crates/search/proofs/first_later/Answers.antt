use Rattle.std.proofs.Common.{◌≡◌, ◌+◌, ◌-◌, length, sym, ap, ◌∙◌, rules}
use Rattle.std.specs.Option.{option_map}
use Rattle.search.specs.Search.{first, passes}
use Rattle.search.proofs.Chains.{found_front, first_behind}
use Rattle.search.proofs.first_later.Given.{Over}
use Rattle.search.proofs.first_later.Goals as goal
use Rattle.search.proofs.first_later.Goals.{After-position}

-- What the chain found, counted from the start.
found : (g : Over) (c : After-position g) →
    option_map (λ k. c.args.from + k) c.position.result ≡ first (passes (λ x. g.T.Matches.hits x c.args.key.now) c.args.items.now) c.args.from (length c.args.items.now - c.args.from)
found g c =
    let p = λ (x : g.row.T.Denot). g.T.Matches.hits x c.args.key.now in
    let rest = c.iter.result.rest.now in
    let w = c.position.ensures.runs in
    first_behind p c.args.items.now c.args.from c.min.result rest c.position.result c.min.ensures c.iter.ensures.rest
    (found_front w.0 _ _ p rest (λ x r q k. search rules) (λ x r q k. search rules) c.position.result (search rules) (search rules) w.2)

pub returns-in_err-found-clause-value : goal.returns-in_err-found-clause-value
returns-in_err-found-clause-value g c = c.from_residual.ensures ∙ sym (ap (option_map (λ k. c.args.from + k)) c.in_err-found.was) ∙ found g (goal.at.returns-in_err-found-clause-value g c).After-position

pub returns-clause-value : goal.returns-clause-value
returns-clause-value g c = sym (ap (option_map (λ k. c.args.from + k)) c.in_ok-found.was) ∙ found g (goal.at.returns-clause-value g c).After-position
