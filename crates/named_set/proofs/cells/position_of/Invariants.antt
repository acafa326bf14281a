use Rattle.std.proofs.Common.{◌≡◌, ◌≢◌, ◌<◌, ◌≤◌, ◌-◌, ℕ, length, Some, slice_get}
use Rattle.counted_cell.specs.Cell.{Cell}
use Rattle.named_set.proofs.cells.position_of.Given as goal

abbrev pub invariant-loop-at : goal.invariant-loop-at
invariant-loop-at l = (l.at ≤ length l.owners) × ((i : ℕ) (c : Cell) → i < l.at → slice_get l.owners i ≡ Some c → c.text ≢ l.text)

abbrev pub decreases-loop-at : goal.decreases-loop-at
decreases-loop-at l = length l.owners - l.at
