-- What is said of a line is right.
use Rattle.std.proofs.Common.{Some, string_bytes, codes, lit<}
use Rattle.std.proofs.lemmas.Str.Pattern.{split_parts, split_text_parts}
use Rattle.cuckooshelf.proofs.Lines.{case_from_parts, answer_agrees, answer_differs}
use Rattle.cuckooshelf.specs.Answers.{RightAnswer}
use Rattle.cuckooshelf.proofs.commands.vectors.compare.Goals as goal

pub returns-in-Ok : goal.returns-in-Ok
returns-in-Ok c =
    let form = c.in-Some.form.now in
    let operands = c.in-Some-split_once.operands.now in
    let expected = c.in-Some-split_once.expected.now in
    let answer = string_bytes c.in-Ok.answer in
    let front = (split_parts 32 c.args.line.now (Some (c.in-Some.form, c.in-Some.rest)) c.in-Some.ensures.cases (lit< tt)).0 in
    let back = split_text_parts (codes " => ") c.in-Some.rest.now (Some (c.in-Some-split_once.operands, c.in-Some-split_once.expected)) c.in-Some-split_once.ensures.cases in (
      form,
      operands,
      expected,
      case_from_parts front back,
      answer_agrees (RightAnswer form operands) answer c.as_str.result.now expected c.eq.result c.in-Ok.ensures.answered c.as_str.ensures.value c.eq.ensures c.if-eq.true,
    )

pub returns-in-Ok-2 : goal.returns-in-Ok-2
returns-in-Ok-2 c =
    let form = c.in-Some.form.now in
    let operands = c.in-Some-split_once.operands.now in
    let expected = c.in-Some-split_once.expected.now in
    let answer = string_bytes c.in-Ok.answer in
    let front = (split_parts 32 c.args.line.now (Some (c.in-Some.form, c.in-Some.rest)) c.in-Some.ensures.cases (lit< tt)).0 in
    let back = split_text_parts (codes " => ") c.in-Some.rest.now (Some (c.in-Some-split_once.operands, c.in-Some-split_once.expected)) c.in-Some-split_once.ensures.cases in (
      form,
      operands,
      case_from_parts front back,
      c.in-Ok.ensures.answered,
      answer_differs answer c.as_str.result.now expected c.eq.result c.as_str.ensures.value c.eq.ensures c.if-eq.false,
    )
