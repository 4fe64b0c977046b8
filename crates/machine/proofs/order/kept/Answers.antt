use Rattle.std.proofs.Common.{◌≡◌, ◌+◌, ◌≤◌, [], ◌∷◌, ◌++◌, length, get_or, drop, sym, ap, ◌∙◌, arith}
use Rattle.bounded.specs.Items.{items}
use Rattle.std.proofs.lemmas.List.{take_all, length_push, length-take}
use Rattle.witness.specs.declared.record.Access.{Access}
use Rattle.machine.specs.Steps.{only, stays}
use Rattle.machine.proofs.Orders.{only_takes, only_skips, only_all}
use Rattle.machine.proofs.order.kept.Goals as goal
use Rattle.machine.proofs.order.kept.Goals.{then-stays, else-stays}

pub loop-access-preserved : goal.loop-access-preserved
loop-access-preserved c =
    let t = stays c.args.processor c.args.keep in
    let xs = c.as_slice-access-items.result.now in
    let i = c.loop-access.access-index in
    let front = items c.loop-access.rest in
    let d : Access = record { processor = 0; position = 0 } in
    let x = get_or xs i d in
    let v = c.args.order in
    elim c.if-stays.branch [
      | then-stays w ↦
          (let few : length xs ≤ 64 = omega (arith, ap length c.as_slice-access-items.ensures, length-take v.len v.slots, v.fits) in
          let grown : items c.if-stays.rest ≡ front ++ x ∷ [] =
          ap items w.rest-is ∙ w.push.ensures.items ∙ take_all 64 (front ++ x ∷ []) (omega (arith, length_push front x)) in (
            omega (arith, ap length grown, length_push front x),
            only_takes t xs front i d c.loop-access-test.true c.loop-access.invariant.1 (sym w.if-stays.ensures) ∙ ap (λ ys. ys ++ only t (drop (i + 1) xs)) (sym grown),
          ))
      | else-stays w ↦ (
        omega (arith, ap (λ r. length (items r)) w.rest-is),
        only_skips t xs front i d c.loop-access-test.true c.loop-access.invariant.1 (sym w.if-stays.ensures) ∙ ap (λ r. items r ++ only t (drop (i + 1) xs)) (sym w.rest-is),
      )
    ]

pub returns : goal.returns
returns c =
    let t = stays c.args.processor c.args.keep in
    let all = only_all t c.as_slice-access-items.result.now (items c.loop-access.rest) c.loop-access.access-index c.loop-access-test.false c.loop-access.invariant.1 in
    sym all ∙ ap (only t) c.as_slice-access-items.ensures
