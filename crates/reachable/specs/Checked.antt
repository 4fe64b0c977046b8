-- What the litmus test of a checked question keeps.
use Rattle.std.specs.Prelude.{◌≡◌, ℕ, ◌≤◌, true, length}
use Rattle.question.specs.Litmus.{Litmus, code_at}
use Rattle.question.specs.Sound.{code_sound}

-- Sixteen cells, one to four processors, at most sixteen instructions each, all of them sound.
pub record Checked (q : Litmus) : Type 0 where
  pub sixteen : length q.start ≡ 16
  pub some : 1 ≤ length q.code
  pub few : length q.code ≤ 4
  pub short : (p : ℕ) → length (code_at q p) ≤ 16
  pub sound : (p : ℕ) → code_sound (code_at q p) ≡ true
