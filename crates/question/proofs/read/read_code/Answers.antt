use Rattle.std.proofs.Common.{◌≡◌, ◌+◌, ◌-◌, ◌*◌, ◌/◌, [], ◌∷◌, ◌++◌, length, get_or, take, drop, Ok, Err, sym, ap, ◌∙◌, arith}
use Rattle.bounded.specs.Items.{items}
use Rattle.std.proofs.lemmas.List.{take_all, length_push}
use Rattle.std.proofs.lemmas.Result.{err_from_is_err_and}
use Rattle.fields.proofs.Chunks.{chunk_at, split_whole}
use Rattle.question.specs.Codes.{code_from}
use Rattle.question.specs.Instructions.{checked, instruction_of, raw_of}
use Rattle.question.specs.Sound.{all_sound, code_sound}
use Rattle.question.proofs.Codes.{after, code_more, code_fault, code_all}
use Rattle.question.proofs.Sound.{read_sound, sound_push}
use Rattle.question.proofs.read.read_code.Goals as goal

pub returns-in_err-read_instruction : goal.returns-in_err-read_instruction
unfolding instruction_of
returns-in_err-read_instruction c =
    let w = split_whole 8 16 c.args.contents.now c.in_ok-records.records.now c.in_ok-records.ensures in
    let b = c.args.contents.now in
    let n = length b / 8 in
    let p = c.loop-record.record-index in
    let r = chunk_at 8 b c.in_ok-records.records.now p w.chunks w.count c.loop-record-test.true in
    let e = c.in_err-read_instruction.field-0.0 in
    let q = err_from_is_err_and c.from_residual-in_err-read_instruction.result c.from_residual-in_err-read_instruction.ensures.1 in
    let k : length c.in_ok-records.records.now ≡ n = w.count in
    let h : instruction_of n (take 8 (drop (8 * p) b)) ≡ Err e = rw (← r, ← k) (sym c.read_instruction.ensures ∙ c.in_err-read_instruction.was) in
    let i = rw k at c.loop-record.invariant.2 in
    rw (q.1, q.2, w.tested, w.whole) (sym (i ∙ code_fault n b p (items c.loop-record.instructions) e (omega arith) h))

pub loop-record-preserved : goal.loop-record-preserved
unfolding instruction_of
loop-record-preserved c =
    let w = split_whole 8 16 c.args.contents.now c.in_ok-records.records.now c.in_ok-records.ensures in
    let b = c.args.contents.now in
    let rs = c.in_ok-records.records.now in
    let n = length rs in
    let p = c.loop-record.record-index in
    let r = chunk_at 8 b rs p w.chunks w.count c.loop-record-test.true in
    let xs = items c.loop-record.instructions in
    let i = c.in_ok-read_instruction.field-0 in
    let was : checked n (raw_of (get_or rs p [])) ≡ Ok i = sym c.read_instruction.ensures ∙ c.in_ok-read_instruction.was in
    let h : instruction_of n (take 8 (drop (8 * p) b)) ≡ Ok i = rw (← r) was in
    let grown : items c.push.new.self ≡ xs ++ i ∷ [] = c.push.ensures.items ∙ take_all 16 (xs ++ i ∷ []) (omega (arith, length_push xs i)) in (
      ap length grown ∙ length_push xs i ∙ ap (λ k. k + 1) c.loop-record.invariant.0,
      ap (all_sound n) grown ∙ sound_push n xs i c.loop-record.invariant.1 (read_sound n (raw_of (get_or rs p [])) i was),
      c.loop-record.invariant.2 ∙ code_more n b p xs i c.loop-record-test.true h
          ∙ ap (λ ys. after ys (code_from n (n - (p + 1)) (drop (8 * (p + 1)) b))) (sym grown),
    )

pub invariant_of-result : goal.invariant_of-result
unfolding code_sound
invariant_of-result c =
    let xs = items c.loop-record.instructions in
    let e : length xs ≡ length c.in_ok-records.records.now = omega arith in
    record { sound = ap (λ k. all_sound k xs) e ∙ c.loop-record.invariant.1 }

pub returns : goal.returns
returns c =
    let w = split_whole 8 16 c.args.contents.now c.in_ok-records.records.now c.in_ok-records.ensures in
    let b = c.args.contents.now in
    let n = length b / 8 in
    let k : length c.in_ok-records.records.now ≡ n = w.count in
    let i = rw k at c.loop-record.invariant.2 in
    rw (w.tested, w.whole) (sym (i ∙ code_all n b c.loop-record.record-index (items c.loop-record.instructions) (omega arith)))
