use Rattle.std.proofs.Common.{◌≡◌, ◌≢◌, rules, tests}
use Rattle.std.proofs.lemmas.Iterator.{IsFirst-from_position, YieldsList-from_slice}
use Rattle.bounded.specs.Items.{items}
use Rattle.memory.specs.declared.cell_list.Row.{Row}
use Rattle.memory.proofs.Places.{first_place}
use Rattle.memory.proofs.cell_list.CellList.place.Goals as goal

pub returns : goal.returns
returns c =
    let a = c.args.address in
    first_place a (items c.args.self.now.rows) c.position.result
    (IsFirst-from_position _ _ _ (λ (r : Row). r.address ≡ a) (λ (r : Row). r.address ≢ a) c.position.ensures.ran (YieldsList-from_slice (items c.args.self.now.rows) cc)
    (λ x q k. search (rules, tests)) (λ x q k. search (rules, tests)))
