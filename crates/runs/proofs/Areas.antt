-- What is written to an area that has room.
use Rattle.std.proofs.Common.{◌≡◌, ℕ, ◌-◌, ◌≤◌, Bool, true, false, ltb, List, ◌++◌, length, take, drop, Ok, refl, ◌∙◌, arith}
use Rattle.std.proofs.lemmas.List.{take-append-le, take_all}
use Rattle.std.proofs.lemmas.Bool.{ltb-true}
use Rattle.machine.specs.Results.{Closed, witness_answer, witness_area}
use Rattle.witness.specs.Bytes.{bytes_of}

module _ (c : Closed) (area : List ℕ) (f : c.finished ≡ true) (room : length (bytes_of c.execution) ≤ length area) where
  roomy : ltb (length area) (length (bytes_of c.execution)) ≡ false
  roomy = go (ltb (length area) (length (bytes_of c.execution))) refl
    where
      go : (b : Bool) → ltb (length area) (length (bytes_of c.execution)) ≡ b → b ≡ false
      go true e = absurd (omega (arith, ltb-true (length area) (length (bytes_of c.execution)) e))
      go false e = refl

  -- The answer is the number of the bytes.
  pub answer_with_room : witness_answer c area ≡ Ok (length (bytes_of c.execution))
  answer_with_room = rw (f, roomy) refl

  -- The bytes stand at the front.
  pub area_with_room : witness_area c area ≡ bytes_of c.execution ++ drop (length (bytes_of c.execution)) area
  area_with_room = rw (f, roomy) refl

-- The bytes are the front of the area afterwards.
pub front_of_area : (bytes rest area : List ℕ) (n : ℕ) → n ≡ length bytes → area ≡ bytes ++ rest → take (n - 0) area ≡ bytes
front_of_area bytes rest area n e a =
    rw (e, a) (take-append-le (length bytes - 0) bytes rest (omega arith) ∙ take_all (length bytes - 0) bytes (omega arith))
