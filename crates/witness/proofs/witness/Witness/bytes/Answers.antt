use Rattle.std.proofs.Common.{◌≡◌, ◌<◌, length, get_or, take, sym, ap, ◌∙◌, arith}
use Rattle.std.specs.List.{flat_map}
use Rattle.std.proofs.lemmas.List.{take_all}
use Rattle.bounded.specs.Items.{items}
use Rattle.fields.specs.Fields.{field_bytes}
use Rattle.witness.specs.Bytes.{path_tag}
use Rattle.witness.specs.Records.{source_bytes, access_bytes}
use Rattle.witness.proofs.Bytes.{bytes_put, path_fields}
use Rattle.witness.proofs.Joined.{joined_next}
use Rattle.witness.proofs.witness.Witness.bytes.Goals as goal

pub loop-path-preserved : goal.loop-path-preserved
loop-path-preserved c =
    let xs = items c.args.self.now.paths in
    let i = c.loop-path.path-index in
    let x = c.path-item.result in
    let e : c.as_slice-path-items.result.now ≡ xs = c.as_slice-path-items.ensures in
    let l : i < length xs = rw e at c.loop-path-test.true in
    let r : x ≡ get_or xs i x = rw e at c.path-item.is in
    let b : c.as_slice.result.now ≡ items (get_or xs i x) = c.as_slice.ensures ∙ ap items r in
    let m = joined_next (λ p. field_bytes path_tag (items p)) 466 xs i x l in
    cc (c.put_field.ensures, c.loop-path.invariant, b, m)

pub returns : goal.returns
returns c =
    let w = c.args.self.now in
    let xs = items w.paths in
    let l : length xs ≡ length c.as_slice-path-items.result.now = ap length (sym c.as_slice-path-items.ensures) in
    let p : items c.loop-path.out ≡ take 466 (path_fields w) =
    c.loop-path.invariant ∙ ap (λ t. take 466 (flat_map (λ v. field_bytes path_tag (items v)) t)) (take_all c.loop-path.path-index xs (omega arith)) in
    let s = c.as_slice-3.ensures ∙ c.write_records-sources.ensures ∙ ap (λ t. take 256 (flat_map source_bytes t)) c.as_slice-2.ensures in
    let o = c.as_slice-5.ensures ∙ c.write_records-order.ensures ∙ ap (λ t. take 128 (flat_map access_bytes t)) c.as_slice-4.ensures in
    bytes_put w p s o c.put_field-2.ensures c.put_field-3.ensures
