-- What is added to a vector of fixed capacity, and what is left to add.
use Rattle.std.proofs.Common.{◌≡◌, ℕ, ◌≤◌, List, [], ◌++◌, length, take, sym, ap, ◌∙◌}
use Rattle.std.proofs.lemmas.List.{append-nil, take_all}
use Rattle.bounded.proofs.Takes.{take_append_both}

-- First the front of what is left, then the rest.
pub pushed : {X : Type 0} (n : ℕ) (all more front rest : List X) → more ≡ take n (all ++ front) → take n (more ++ rest) ≡ take n (all ++ (front ++ rest))
pushed n all more front rest e = ap (λ xs. take n (xs ++ rest)) e ∙ take_append_both n all front rest

-- Nothing is left.
pub pushed_all : {X : Type 0} (n : ℕ) (all : List X) → length all ≤ n → all ≡ take n (all ++ [])
pushed_all n all l = sym (ap (take n) (append-nil all) ∙ take_all n all l)
