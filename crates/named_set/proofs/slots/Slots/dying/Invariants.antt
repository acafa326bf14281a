use Rattle.std.proofs.Common.{◌≤◌, length}
use Rattle.named_set.proofs.slots.Slots.dying.Given as goal

abbrev pub invariant-loop-below : goal.invariant-loop-below
invariant-loop-below l = l.below ≤ length l.self-inside.slots.items

abbrev pub decreases-loop-below : goal.decreases-loop-below
decreases-loop-below l = l.below
