use Rattle.std.proofs.Common.{◌≡◌, ◌-◌, ◌*◌, true, length, drop}
use Rattle.bounded.specs.Items.{items}
use Rattle.question.specs.Codes.{code_from}
use Rattle.question.specs.Sound.{all_sound}
use Rattle.question.proofs.Codes.{after}
use Rattle.question.proofs.read.read_code.Given as goal

abbrev pub invariant-loop-record : goal.invariant-loop-record
invariant-loop-record l =
    (length (items l.instructions) ≡ l.record-index) × (all_sound (length l.records) (items l.instructions) ≡ true) ×
    (code_from (length l.records) (length l.records) l.contents ≡ after (items l.instructions) (code_from (length l.records) (length l.records - l.record-index) (drop (8 * l.record-index) l.contents)))
