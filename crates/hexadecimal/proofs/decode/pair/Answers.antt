use Rattle.std.proofs.Common.{◌∙◌, sym, ap}
use Rattle.std.specs.Result.{result_ok}
use Rattle.hexadecimal.proofs.Digits.{byte_of, two_digits}
use Rattle.hexadecimal.proofs.decode.pair.Goals as goal

pub returns-in_err-byte : goal.returns-in_err-byte
returns-in_err-byte c =
    c.from_residual.ensures ∙ ap byte_of (sym c.in_err-byte.was ∙ c.ok.ensures.value ∙ ap result_ok c.from_hex.ensures) ∙ two_digits c.args.high c.args.low

pub returns : goal.returns
returns c =
    ap byte_of (sym c.in_ok-byte.was ∙ c.ok.ensures.value ∙ ap result_ok c.from_hex.ensures) ∙ two_digits c.args.high c.args.low
