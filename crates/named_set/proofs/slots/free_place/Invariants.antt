use Rattle.std.proofs.Common.{◌≤◌, length}
use Rattle.named_set.specs.Slots.{reach}
use Rattle.named_set.proofs.Indexing.{AreTaken}
use Rattle.named_set.proofs.slots.free_place.Given as goal

abbrev pub invariant-loop-below : goal.invariant-loop-below
invariant-loop-below l = (l.below ≤ reach (length l.slots) l.short) × AreTaken l.slots l.below l.short

abbrev pub decreases-loop-below : goal.decreases-loop-below
decreases-loop-below l = l.below
