-- An operand that is ready by the rules has its value by the search.
use Rattle.std.proofs.Common.{◌≡◌, ℕ, ◌≤◌, length, Some, Option, refl}
use Rattle.rules.specs.Ready.{ready, writes_register}
use Rattle.machine.specs.State.{State}
use Rattle.machine.specs.Fires.{buffer, Ready}
use Rattle.machine_laws.proofs.OlderEntries.{none_older, nearest_older}

-- The value of a ready operand.
pub ready_is : (s : State) (p i : ℕ) {o : Option ℕ} {x : ℕ} → i ≤ length (buffer s p) → Ready s p i o x → ready (buffer s p) i o ≡ Some x
ready_is s p i l Ready.absent = refl
ready_is s p i l (Ready.unwritten r h) = rw (none_older (writes_register r) (buffer s p) i l h)
ready_is s p i l (Ready.from_writer r j b w h d) = rw (nearest_older (writes_register r) (buffer s p) i j l b w h, d)
