use Rattle.std.proofs.Common.{ℕ, ◌<◌, [], ◌∷◌, ◌++◌, map, length, get_or, take, ap, ◌∙◌, arith}
use Rattle.std.proofs.lemmas.List.{length-map, length-take, take_all}
use Rattle.rules.specs.Entries.{blank}
use Rattle.rules.specs.declared.entry.Entry.{Entry}
use Rattle.bounded.specs.Items.{items}
use Rattle.machine.proofs.Closing.{mapped_next}
use Rattle.machine.proofs.processor.Processor.path.Goals as goal

pub loop-entry-preserved : goal.loop-entry-preserved
loop-entry-preserved c =
    let xs = items c.args.self.now.entries in
    let i = c.loop-entry.entry-index in
    let place : Entry → ℕ = λ e. e.place in
    let e = c.as_slice-entry-items.ensures in
    let l : i < length xs = rw e at c.loop-entry-test.true in
    c.push.ensures.items
    ∙ ap (λ ys. take 16 (ys ++ (get_or c.as_slice-entry-items.result.now i blank).place ∷ [])) c.loop-entry.invariant
    ∙ ap (λ ys. take 16 (take 16 (map place (take i xs)) ++ (get_or ys i blank).place ∷ [])) e
    ∙ mapped_next place 16 xs i blank l

pub returns : goal.returns
returns c =
    let v = c.args.self.now.entries in
    let xs = items v in
    let place : Entry → ℕ = λ e. e.place in
    c.loop-entry.invariant
    ∙ ap (λ t. take 16 (map place t)) (take_all c.loop-entry.entry-index xs (omega (arith, ap length c.as_slice-entry-items.ensures, c.loop-entry-test.false)))
    ∙ take_all 16 (map place xs) (omega (arith, length-map xs place, length-take v.len v.slots, v.fits))
