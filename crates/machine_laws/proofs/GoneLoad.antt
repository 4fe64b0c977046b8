-- Rule 5: a step that goes fires the rule, from an older store or from the memory.
use Rattle.std.proofs.Common.{◌≡◌, ℕ, ◌<◌, Bool, true, false, length, Some, None, Option, refl}
use Rattle.instructions.specs.declared.instruction.AccessType.TheVariants as access_type
use Rattle.instructions.specs.Kinds.{stores, fence_to}
use Rattle.question.specs.Litmus.{Litmus}
use Rattle.rules.specs.Changes.{forwarded, taken_from}
use Rattle.rules.specs.Tests.{open_to_cell}
use Rattle.rules.specs.declared.rule.Rule.TheVariants as rule
use Rattle.search.specs.Search.{nearest, passes}
use Rattle.machine.specs.State.{State}
use Rattle.machine.specs.Steps.{went, done}
use Rattle.machine.specs.Fires.{buffer, entry, instruction, Older, Fires, step}
use Rattle.machine_laws.proofs.GoneActs.{Acted, not_refused, fires_as_gone, value_there_to_act, none_in_the_way_to_act}
use Rattle.machine_laws.proofs.GoneTests.{load_free, nearest_open, none_open}

module _ (q : Litmus) (s : State) (p i g n : ℕ) (t : State) (here : p < length s.cores) (act : Acted s rule.Load p i g n t) where
  module _ (a : ℕ) (at_a : (entry s p i).address ≡ Some a) (free : Older s p i (λ e. fence_to access_type.Load e.instruction ≡ true → e.done ≡ true)) where
    -- The nearest open access to the cell is a store with data.
    from_store : (j : ℕ) → nearest (passes (open_to_cell a) (buffer s p)) i ≡ Some j → (d : Option ℕ) → (entry s p j).datum ≡ d → (b : Bool) → stores (instruction s p j) ≡ b →
        done s p i (forwarded (buffer s p) i p d b j) ≡ went n t → Fires q s (step 5 p i 0) n t
    from_store j o (Some v) x true y h =
        fires_as_gone q s (step 5 p i 0) 0 n t _
        (Fires.load_forwarded p i a j v (here, act.within) act.suited act.not_made at_a free (nearest_open s p i act.within a j o) y x) h
    from_store j o (Some v) x false y h = not_refused _ n t h
    from_store j o None x true y h = not_refused _ n t h
    from_store j o None x false y h = not_refused _ n t h

    -- From a store, or from the memory where no access to the cell is open.
    from_either : (o : Option ℕ) → nearest (passes (open_to_cell a) (buffer s p)) i ≡ o → done s p i (taken_from (buffer s p) i p a o) ≡ went n t → Fires q s (step 5 p i 0) n t
    from_either None e h =
        fires_as_gone q s (step 5 p i 0) 0 n t _
        (Fires.load_from_memory p i a (here, act.within) act.suited act.not_made at_a free (none_open s p i act.within a e)) h
    from_either (Some j) e h = from_store j e (entry s p j).datum refl (stores (instruction s p j)) refl h

  -- Rule 5.
  pub gone_load : Fires q s (step 5 p i 0) n t
  gone_load =
      let u = value_there_to_act s p i n t _ _ act.acted in
      let v = none_in_the_way_to_act s p i n t _ _ u.2 in
      from_either u.0 u.1 (load_free s p i act.within v.0) (nearest (passes (open_to_cell u.0) (buffer s p)) i) refl v.1
