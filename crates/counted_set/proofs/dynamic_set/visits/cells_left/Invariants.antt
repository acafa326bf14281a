use Rattle.std.proofs.Common.{length}
use Rattle.counted_set.proofs.Visits.{AreSame, IsSummed}
use Rattle.counted_set.proofs.dynamic_set.visits.cells_left.Given as goal

abbrev pub invariant-loop-entry : goal.invariant-loop-entry
invariant-loop-entry l = IsSummed l.fn.entries l.bytes l.entries × AreSame l.fn.entries l.entries

abbrev pub decreases-loop-entry : goal.decreases-loop-entry
decreases-loop-entry l = length l.entries.left
