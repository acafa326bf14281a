use Rattle.std.proofs.Common.{length}
use Rattle.counted_set.proofs.Visits.{AreSame, Visited}
use Rattle.counted_set.proofs.dynamic_set.visits.visit_left.Given as goal

abbrev pub invariant-loop-entry : goal.invariant-loop-entry
invariant-loop-entry g l = goal.F-IsAlwaysCallable g l.visit × Visited g.F.FnMut l.fn.visit l.fn.entries l.visit l.entries × AreSame l.fn.entries l.entries

abbrev pub decreases-loop-entry : goal.decreases-loop-entry
decreases-loop-entry g l = length l.entries.left
