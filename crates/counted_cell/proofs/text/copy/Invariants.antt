use Rattle.std.proofs.Common.{◌≡◌, ℕ, List, length, ◌+◌, ◌-◌, ◌≤◌}
use Rattle.counted_cell.specs.Text.{begun, ArePart}
use Rattle.counted_cell.proofs.text.copy.Given as goal

abbrev pub invariant-loop-count : goal.invariant-loop-count
invariant-loop-count l = (l.places.at ≡ l.fn.places.at) × (l.start.ptr ≡ l.places.at)
    × ((all : List ℕ) → l.fn.places.slots ≡ begun all l.from → ArePart all l.from l.bytes → l.places.slots ≡ begun all (l.from + l.count)) × (l.count ≤ length l.bytes)

abbrev pub decreases-loop-count : goal.decreases-loop-count
decreases-loop-count l = length l.bytes - l.count
