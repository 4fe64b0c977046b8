use Rattle.std.proofs.Common.{◌≡◌, ◌/◌, ◌%◌, [], ◌∷◌, ◌++◌, length, get_or, take, ap, ◌∙◌, arith}
use Rattle.bounded.specs.Items.{items}
use Rattle.bounded.proofs.Takes.{take_append_both}
use Rattle.witness.proofs.write.put_field.Goals as goal

pub returns : goal.returns
returns c =
    let xs = items c.args.out.now in
    let b = c.args.contents.now in
    let n = length b in
    let q : n / 256 % 256 ≡ n / 256 = omega arith in
    let size = c.to_be_bytes.ensures ∙ ap (λ high. high ∷ n % 256 ∷ []) q in
    let header = c.extend.ensures ∙ ap (λ r. take 466 (xs ++ c.args.tag ∷ get_or r 0 0 ∷ get_or r 1 0 ∷ [])) size in
    c.extend-2.ensures ∙ ap (λ t. take 466 (t ++ b)) header ∙ take_append_both 466 xs (c.args.tag ∷ n / 256 ∷ n % 256 ∷ []) b
