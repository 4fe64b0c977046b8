use Rattle.std.proofs.Common.{◌≡◌, ◌<◌, ◌++◌, length, get_or, take, sym, ap, ◌∙◌, arith}
use Rattle.std.specs.List.{flat_map}
use Rattle.std.proofs.lemmas.List.{append-nil, length-take, take_all}
use Rattle.bounded.specs.Items.{items}
use Rattle.rules.specs.Entries.{blank}
use Rattle.machine.specs.Results.{entry_sources}
use Rattle.machine.proofs.Closing.{sources_add, sources_skip, load_source, no_source}
use Rattle.machine.proofs.processor.Processor.add_sources.Goals as goal
use Rattle.machine.proofs.processor.Processor.add_sources.Goals.{then-loads, else-loads}

pub loop-entry-init : goal.loop-entry-init
loop-entry-init c =
    let v = c.args.sources.now in
    sym (ap (take 64) (append-nil (items v)) ∙ take_all 64 (items v) (omega (arith, length-take v.len v.slots, v.fits)))

pub loop-entry-preserved : goal.loop-entry-preserved
loop-entry-preserved c =
    let start = items c.args.sources.now in
    let xs = items c.args.self.now.entries in
    let ys = c.as_slice-entry-items.result.now in
    let i = c.loop-entry.entry-index in
    let held = items c.loop-entry.sources in
    let e : ys ≡ xs = c.as_slice-entry-items.ensures in
    let l : i < length xs = rw e at c.loop-entry-test.true in
    let same : entry_sources (get_or xs i blank) ≡ entry_sources (get_or ys i blank) = ap (λ zs. entry_sources (get_or zs i blank)) (sym e) in
    elim c.if-loads.branch [
      | then-loads w ↦
          (let x = w.source_record.result in
          ap items w.sources-is ∙ w.push.ensures.items
          ∙ sources_add start xs i blank l held c.loop-entry.invariant x (same ∙ load_source (get_or ys i blank) x (sym c.loads.ensures ∙ w.if-loads.true) w.source_record.ensures))
      | else-loads w ↦
          ap items w.sources-is
          ∙ sources_skip start xs i blank l held c.loop-entry.invariant (same ∙ no_source (get_or ys i blank) (sym c.loads.ensures ∙ w.if-loads.false))
    ]

pub returns : goal.returns
returns c =
    let start = items c.args.sources.now in
    let xs = items c.args.self.now.entries in
    c.loop-entry.invariant
    ∙ ap (λ t. take 64 (start ++ flat_map entry_sources t)) (take_all c.loop-entry.entry-index xs (omega (arith, ap length c.as_slice-entry-items.ensures, c.loop-entry-test.false)))
