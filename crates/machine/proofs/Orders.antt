-- The memory order without what is removed, access by access.
use Rattle.std.proofs.Common.{◌≡◌, ℕ, ◌+◌, ◌<◌, ◌≤◌, Bool, true, false, cond, List, [], ◌∷◌, ◌++◌, length, get_or, drop, sym, ap, ◌∙◌}
use Rattle.std.proofs.lemmas.List.{drop_more, drop_all, append_assoc, append-nil}
use Rattle.witness.specs.declared.record.Access.{Access}
use Rattle.machine.specs.Steps.{only}

module _ (t : Access → Bool) (xs front : List Access) (i : ℕ) (d : Access) (h : i < length xs) (inv : only t xs ≡ front ++ only t (drop i xs)) where
  here : only t (drop i xs) ≡ cond (t (get_or xs i d)) (get_or xs i d ∷ only t (drop (i + 1) xs)) (only t (drop (i + 1) xs))
  here = ap (only t) (drop_more xs i d h)

  pub only_takes : t (get_or xs i d) ≡ true → only t xs ≡ (front ++ get_or xs i d ∷ []) ++ only t (drop (i + 1) xs)
  only_takes e = inv ∙ ap (λ ys. front ++ ys) (here ∙ rw e) ∙ sym (append_assoc front (get_or xs i d ∷ []) (only t (drop (i + 1) xs)))

  pub only_skips : t (get_or xs i d) ≡ false → only t xs ≡ front ++ only t (drop (i + 1) xs)
  only_skips e = inv ∙ ap (λ ys. front ++ ys) (here ∙ rw e)

pub only_all : (t : Access → Bool) (xs front : List Access) (i : ℕ) → length xs ≤ i → only t xs ≡ front ++ only t (drop i xs) → only t xs ≡ front
only_all t xs front i h inv = inv ∙ ap (λ ys. front ++ only t ys) (drop_all i xs h) ∙ append-nil front
