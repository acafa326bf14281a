use Rattle.std.proofs.Common.{length}
use Rattle.counted_set.proofs.Visits.{AreSame, IsCounted}
use Rattle.counted_set.proofs.dynamic_set.visits.number_left.Given as goal

abbrev pub invariant-loop-entry : goal.invariant-loop-entry
invariant-loop-entry l = IsCounted l.fn.entries l.number l.entries × AreSame l.fn.entries l.entries

abbrev pub decreases-loop-entry : goal.decreases-loop-entry
decreases-loop-entry l = length l.entries.left
