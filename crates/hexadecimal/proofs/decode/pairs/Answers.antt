-- The bytes so far grow pair by pair, and are all at the end.
use Rattle.std.proofs.Common.{◌≡◌, ◌≤◌, length, vec_items, sym, ◌∙◌, rules}
use Rattle.hexadecimal.proofs.Pairs.{pair_joins, pair_fails, pairs_end, pairs_odd}
use Rattle.hexadecimal.proofs.decode.pairs.Goals as goal

pub returns-in_default-pair : goal.returns-in_default-pair
returns-in_default-pair c =
    let h : 2 ≤ length c.loop-rest.rest.now = search rules in
    pair_fails _ c.loop-rest.rest.now _ c.loop-rest.invariant h (sym c.pair.ensures ∙ c.in_default-pair.is)

pub loop-rest-preserved : goal.loop-rest-preserved
loop-rest-preserved c =
    let h : 2 ≤ length c.loop-rest.rest.now = search rules in
    pair_joins _ c.loop-rest.rest.now _ c.loop-rest.invariant c.in-Some.byte (vec_items c.push.new.self) h
    (sym c.pair.ensures ∙ c.in-Some.is) c.in_ok-push.ensures.items

pub returns-then-is_empty : goal.returns-then-is_empty
returns-then-is_empty c =
    let h : length c.loop-rest.rest.now ≡ 0 = search rules in
    pairs_end _ c.loop-rest.rest.now _ c.loop-rest.invariant h

pub returns-else-is_empty : goal.returns-else-is_empty
returns-else-is_empty c =
    let h : length c.loop-rest.rest.now ≡ 1 = search rules in
    pairs_odd _ c.loop-rest.rest.now _ c.loop-rest.invariant h
