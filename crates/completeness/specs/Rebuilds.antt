-- Which steps rebuild a witness: a relation that fixes them.
use Rattle.std.specs.Prelude.{◌≡◌, ℕ, ◌<◌, true, ◌⊎◌, List, [], ◌∷◌, ◌++◌}
use Rattle.instructions.specs.Kinds.{loads, stores}
use Rattle.question.specs.Litmus.{Litmus}
use Rattle.witness.specs.Execution.{Execution}
use Rattle.witness.specs.declared.record.Access.{Access}
use Rattle.machine.specs.Fires.{step, instruction}
use Rattle.machine.specs.State.{State, started}
use Rattle.machine.specs.Steps.{went, step_outcome}
use Rattle.machine.specs.declared.step.Step.{Step}
use Rattle.completeness.specs.StepsFor.{fetches}

-- The step is accepted and leads to the state, removing nothing.
abbrev pub Leads : Litmus → State → Step → State → Type 0
Leads q s st t = step_outcome q s st ≡ went 0 t

-- The steps are accepted one after the other and lead to the state, none removing an entry.
pub data Lead (q : Litmus) : State → List Step → State → Type 0 where
  nothing : {s : State} → Lead q s [] s
  next : {s t u : State} {st : Step} {sts : List Step} → Leads q s st t → Lead q t sts u → Lead q s (st ∷ sts) u

-- A local step: of arithmetic, branch, fence, store data or address, by its rule's number.
pub data Local : Step → Type 0 where
  arithmetic : (p i : ℕ) → Local (step 2 p i 0)
  branch : (p i : ℕ) → Local (step 3 p i 0)
  fence : (p i : ℕ) → Local (step 4 p i 0)
  store_data : (p i : ℕ) → Local (step 6 p i 0)
  address : (p i : ℕ) → Local (step 8 p i 0)

-- The step is accepted.
abbrev pub Acceptable : Litmus → State → Step → Type 0
Acceptable q s st = (n : ℕ) × (t : State) × (step_outcome q s st ≡ went n t)

-- The first step is lower: by processor, then position, then rule.
abbrev pub Lower : Step → Step → Type 0
Lower a b =
    (a.processor < b.processor)
    ⊎ ((a.processor ≡ b.processor)
    × ((a.position < b.position) ⊎ ((a.position ≡ b.position) × (a.rule < b.rule))))

-- The acceptable local step than which none is lower.
pub record Lowest (q : Litmus) (s : State) (st : Step) : Type 0 where
  pub local : Local st
  pub acceptable : Acceptable q s st
  pub none_lower : (other : Step) → Local other → Acceptable q s other → Lower other st → ⊥

-- The lowest local step each time, until none is acceptable.
pub data Settles (q : Litmus) : State → List Step → State → Type 0 where
  settled : {s : State} → ((st : Step) → Local st → Acceptable q s st → ⊥) → Settles q s [] s
  next : {s t u : State} {st : Step} {sts : List Step} → Lowest q s st → Leads q s st t → Settles q t sts u → Settles q s (st ∷ sts) u

-- The step that carries out an access: rule 5 for a load, rule 7 for a store.
pub data Carries (s : State) (a : Access) : Step → Type 0 where
  load : loads (instruction s a.processor a.position) ≡ true → Carries s a (step 5 a.processor a.position 0)
  store : stores (instruction s a.processor a.position) ≡ true → Carries s a (step 7 a.processor a.position 0)

-- Local steps before each access of the order and after the last.
pub data CarriedOut (q : Litmus) : List Access → State → List Step → State → Type 0 where
  done : {s t : State} {sts : List Step} → Settles q s sts t → CarriedOut q [] s sts t
  next : {a : Access} {order : List Access} {s t u v : State} {before rest : List Step} {st : Step} →
      Settles q s before t → Carries t a st → Leads q t st u → CarriedOut q order u rest v → CarriedOut q (a ∷ order) s (before ++ st ∷ rest) v

-- The steps rebuild the witness: all fetches, then the accesses in its order with local steps between.
pub record Rebuilds (q : Litmus) (w : Execution) (steps : List Step) : Type 0 where
  pub fetched : State
  pub end : State
  pub rest : List Step
  pub parts : steps ≡ fetches q w ++ rest
  pub fetches_lead : Lead q (started q) (fetches q w) fetched
  pub accesses : CarriedOut q w.order fetched rest end
