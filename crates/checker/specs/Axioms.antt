-- The axioms: what holds of a question and a witness under an ordering rule, after Figure 15 of "Constructing a Weak Memory Model".
use Rattle.std.specs.Prelude.{◌≡◌, ℕ, zero, suc, ◌<◌, ◌⊎◌, List, length, slice_index}
use Rattle.instructions.specs.declared.instruction.Instruction.{Instruction}
use Rattle.question.specs.Litmus.{Litmus, code_at}
use Rattle.witness.specs.Execution.{Execution}
use Rattle.witness.specs.declared.record.Access.{Access}
use Rattle.witness.specs.declared.record.Source.{Source}
use Rattle.events.specs.declared.event.Event.{Event}
use Rattle.events.specs.Events.{at}
use Rattle.events.specs.Sources.{loads_before, source_at, events}
use Rattle.ordering.specs.Closure.{Closure}
use Rattle.ordering.specs.Rules.{Rule}
use Rattle.checker.specs.Terms.{access_at, event, cell, AccessAt, LoadAt, StoreAt, Stands, Precedes}

-- Where the first i events of a path lead: to place 0 before the first.
abbrev pub leads_to : List Event → ℕ → ℕ
leads_to es zero = 0
leads_to es (suc i) = (at es i).next

-- Each event stands at a place of the code, where those before it lead, and the last leads to the end.
pub record RunsThrough (code : List Instruction) (es : List Event) : Type 0 where
  pub each : (i : ℕ) → i < length es → ((at es i).place ≡ leads_to es i) × ((at es i).place < length code)
  pub ends : leads_to es (length es) ≡ length code

-- The source record names no store: the start.
abbrev pub NamesStart : Source → Type 0
NamesStart r = (r.processor ≡ 255) × (r.position ≡ 255)

module _ (q : Litmus) (w : Execution) where
  -- 1 Path: as many paths as processors, each from place 0 to the end with the stated load values, and as many source records as loads.
  pub record Path : Type 0 where
    pub paths : length w.paths ≡ length q.code
    pub runs : (p : ℕ) → p < length q.code → RunsThrough (code_at q p) (events q w p)
    pub records : length w.sources ≡ loads_before q w (length q.code)

  -- The access stands in the order, at one number only.
  pub record StandsOnce (a : Access) : Type 0 where
    pub number : ℕ
    pub stands : Stands w.order number a
    pub only_there : (k : ℕ) → Stands w.order k a → k ≡ number

  -- 2 Order: each access of the paths stands in the order exactly once, and nothing else does.
  pub record Order : Type 0 where
    pub once : (p i : ℕ) → AccessAt q w p i → StandsOnce (access_at p i)
    pub nothing_else : (k : ℕ) (a : Access) → Stands w.order k a → AccessAt q w a.processor a.position

  -- The named source of the load at position i of processor p is the start with its value, or a store to the load's cell with its data.
  pub data Sourced (p i : ℕ) : Type 0 where
    from_start : NamesStart (source_at q w p i) → (source_at q w p i).value ≡ slice_index q.start (cell q w p i) → Sourced p i
    from_store : StoreAt q w (source_at q w p i).processor (source_at q w p i).position →
        cell q w (source_at q w p i).processor (source_at q w p i).position ≡ cell q w p i →
        (source_at q w p i).value ≡ (event q w (source_at q w p i).processor (source_at q w p i).position).datum → Sourced p i

  -- 3 Source: of every load.
  abbrev pub SourceAxiom : Type 0
  SourceAxiom = (p i : ℕ) → LoadAt q w p i → Sourced p i

  -- 4 InstOrder: an access that the rule keeps before another, through any events between, precedes it in the order.
  abbrev pub InstOrder : Rule → Type 0
  InstOrder R =
      (p i j : ℕ) → AccessAt q w p i → AccessAt q w p j → Closure (R (events q w p)) i j →
      Precedes w.order (access_at p i) (access_at p j)

  -- A store to the cell of the load at position i of processor p that precedes it in the order or in its own path.
  pub record Candidate (p i : ℕ) (a : Access) : Type 0 where
    pub store : StoreAt q w a.processor a.position
    pub same : cell q w a.processor a.position ≡ cell q w p i
    pub sooner : Precedes w.order a (access_at p i) ⊎ ((a.processor ≡ p) × (a.position < i))

  -- The source record names the youngest candidate by the order, or the start where there is none.
  pub data Youngest (p i : ℕ) (r : Source) : Type 0 where
    start : NamesStart r → ((a : Access) → Candidate p i a → ⊥) → Youngest p i r
    store : Candidate p i (access_at r.processor r.position) →
        ((a : Access) → Candidate p i a → (a ≡ access_at r.processor r.position) ⊎ Precedes w.order a (access_at r.processor r.position)) →
        Youngest p i r

  -- 5 LoadValue: of every load.
  abbrev pub LoadValue : Type 0
  LoadValue = (p i : ℕ) → LoadAt q w p i → Youngest p i (source_at q w p i)

-- All five hold.
pub record Axioms (R : Rule) (q : Litmus) (w : Execution) : Type 0 where
  pub path : Path q w
  pub order : Order q w
  pub source : SourceAxiom q w
  pub inst_order : InstOrder q w R
  pub load_value : LoadValue q w

-- The axiom with this number; there are five.
abbrev pub Axiom : Rule → Litmus → Execution → ℕ → Type 0
Axiom R q w zero = Unit {0}
Axiom R q w (suc zero) = Path q w
Axiom R q w (suc (suc zero)) = Order q w
Axiom R q w (suc (suc (suc zero))) = SourceAxiom q w
Axiom R q w (suc (suc (suc (suc zero)))) = InstOrder q w R
Axiom R q w (suc (suc (suc (suc (suc zero))))) = LoadValue q w
Axiom R q w (suc (suc (suc (suc (suc (suc n)))))) = Unit {0}
