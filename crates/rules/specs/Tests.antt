-- What the rules look for among older and younger entries.
use Rattle.std.specs.Prelude.{ℕ, Bool, false, not, ◌&&◌, ◌||◌, is_some, Some, None, Option, ◌==◌}
use Rattle.instructions.specs.Effects.{cell_number}
use Rattle.instructions.specs.Kinds.{loads, stores, access, branches, fence_from, fence_to}
use Rattle.instructions.specs.declared.instruction.AccessType.TheVariants as access_type
use Rattle.instructions.specs.declared.instruction.Instruction.{Instruction}
use Rattle.rules.specs.declared.entry.Entry.{Entry}

-- The address is available and means the same cell.
abbrev pub same_cell : ℕ → Option ℕ → Bool
same_cell a None = false
same_cell a (Some b) = cell_number a == cell_number b

-- An access of a type that the fence puts first, not done.
abbrev pub open_for_fence : Instruction → Entry → Bool
open_for_fence fence e =
    ((fence_from access_type.Load fence && loads e.instruction) || (fence_from access_type.Store fence && stores e.instruction)) && not e.done

-- A fence that loads come after, not done.
abbrev pub open_fence_to_load : Entry → Bool
open_fence_to_load e = fence_to access_type.Load e.instruction && not e.done

-- A fence that stores come after, not done.
abbrev pub open_fence_to_store : Entry → Bool
open_fence_to_store e = fence_to access_type.Store e.instruction && not e.done

-- An access to the same cell, not done.
abbrev pub open_to_cell : ℕ → Entry → Bool
open_to_cell a e = access e.instruction && (not e.done && same_cell a e.address)

-- What holds a store to address a back: a branch not done, an access without an address, an access to the same cell not done, a fence that stores come after not done.
abbrev pub holds_store : ℕ → Entry → Bool
holds_store a e =
    (branches e.instruction && not e.done)
    || ((access e.instruction && not (is_some e.address))
    || (open_to_cell a e || open_fence_to_store e))

-- An access to the same cell, done or not.
abbrev pub to_cell : ℕ → Entry → Bool
to_cell a e = access e.instruction && same_cell a e.address
