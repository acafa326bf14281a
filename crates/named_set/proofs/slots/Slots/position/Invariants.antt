use Rattle.std.proofs.Common.{◌≤◌, length}
use Rattle.named_set.specs.Slots.{reach}
use Rattle.named_set.proofs.Indexing.{HaveNone}
use Rattle.named_set.proofs.slots.Slots.position.Given as goal

abbrev pub invariant-loop-below : goal.invariant-loop-below
invariant-loop-below l = (l.below ≤ reach (length l.self-inside.slots.items) l.short) × HaveNone l.self-inside.slots.items l.below l.short l.text

abbrev pub decreases-loop-below : goal.decreases-loop-below
decreases-loop-below l = l.below
