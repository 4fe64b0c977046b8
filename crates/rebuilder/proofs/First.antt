-- The first accepted step of steps that are tried one after the other.
use Rattle.std.proofs.Common.{◌≡◌, Bool, true, false, is_some, List, [], ◌∷◌, ◌++◌, Some, None, Option, sym, refl, ap, ◌∙◌}
use Rattle.machine.specs.Steps.{Outcome, refused, went, step_outcome}
use Rattle.machine.specs.declared.step.Step.{Step}
use Rattle.completeness.specs.StepsFor.{Taken, taken_or, first_accepted}
use Rattle.rebuilder.specs.Progress.{Progress, TakesFirst, takes, first_of}

-- The first, or else the second.
or_else : Option Taken → Option Taken → Option Taken
or_else (Some t) other = Some t
or_else None other = other

-- The first of two lists one after the other.
first_of_both : (p : Progress) (xs ys : List Step) → first_of p (xs ++ ys) ≡ or_else (first_of p xs) (first_of p ys)
unfolding first_of first_accepted or_else
first_of_both p [] ys = refl
first_of_both p (st ∷ xs) ys = go (step_outcome p.question p.state st) (first_of_both p xs ys)
  where
    go : (o : Outcome) → first_of p (xs ++ ys) ≡ or_else (first_of p xs) (first_of p ys) → taken_or st o (first_of p (xs ++ ys)) ≡ or_else (taken_or st o (first_of p xs)) (first_of p ys)
    go (refused e) h = h
    go (went n t) h = refl

-- Of no steps none is accepted.
none_of_none : (p : Progress) → first_of p [] ≡ None
unfolding first_of first_accepted
none_of_none p = refl

-- A search among all: none was accepted so far, so that t is as far as p, and those that are left decide.
pub record Searching (p t : Progress) (left all : List Step) : Type 0 where
  pub here : t ≡ p
  pub so_far : first_of p left ≡ first_of p all

module _ {p t : Progress} {left all : List Step} (search_so_far : Searching p t left all) where
  -- What comes of the steps that come next, and of all.
  next : {xs : List Step} (rest : List Step) {found : Bool} {u : Progress} → left ≡ xs ++ rest → TakesFirst t xs found u →
      (found ≡ is_some (first_of p xs)) × (u ≡ takes p (first_of p xs)) × (first_of p all ≡ or_else (first_of p xs) (first_of p rest))
  next {xs} rest parts took = (
    took.if_accepted ∙ ap (λ v. is_some (first_of v xs)) search_so_far.here,
    took.progress ∙ ap (λ v. takes v (first_of v xs)) search_so_far.here,
    sym search_so_far.so_far ∙ ap (first_of p) parts ∙ first_of_both p xs rest,
  )

  -- It ends at a step of those that come next.
  pub search_finds : {xs : List Step} (rest : List Step) {found : Bool} {u : Progress} → left ≡ xs ++ rest → TakesFirst t xs found u → found ≡ true → TakesFirst p all true u
  unfolding or_else
  search_finds {xs} rest {found} {u} parts took is = let n = next rest parts took in go (first_of p xs) (sym n.0 ∙ is) n.1 n.2
    where
      go : (o : Option Taken) → is_some o ≡ true → u ≡ takes p o → first_of p all ≡ or_else o (first_of p rest) → TakesFirst p all true u
      go None f s e = cc
      go (Some x) f s e = record { if_accepted = sym (ap is_some e); progress = s ∙ sym (ap (takes p) e) }

  -- It goes on where none of those is accepted.
  pub search_goes_on : {xs : List Step} (rest : List Step) {found : Bool} {u : Progress} → left ≡ xs ++ rest → TakesFirst t xs found u → found ≡ false → Searching p u rest all
  unfolding or_else takes
  search_goes_on {xs} rest {found} {u} parts took is = let n = next rest parts took in go (first_of p xs) (sym n.0 ∙ is) n.1 n.2
    where
      go : (o : Option Taken) → is_some o ≡ false → u ≡ takes p o → first_of p all ≡ or_else o (first_of p rest) → Searching p u rest all
      go None f s e = record { here = s; so_far = sym e }
      go (Some x) f s e = cc

  -- It ends without a step where nothing is left.
  pub search_ends : left ≡ [] → TakesFirst p all false t
  unfolding takes
  search_ends nothing =
      let none : first_of p all ≡ None = sym search_so_far.so_far ∙ ap (first_of p) nothing ∙ none_of_none p in
      record { if_accepted = sym (ap is_some none); progress = search_so_far.here ∙ sym (ap (takes p) none) }
