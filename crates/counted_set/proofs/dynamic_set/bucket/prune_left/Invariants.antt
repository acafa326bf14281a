use Rattle.std.proofs.Common.{length}
use Rattle.std.specs.Prelude.{None}
use Rattle.counted_set.proofs.Passes.{Goes}
use Rattle.counted_set.proofs.dynamic_set.bucket.prune_left.Given as goal

abbrev pub invariant-loop-met : goal.invariant-loop-met
invariant-loop-met g l = Goes g.C.Counts.gives None l.fn.counts l.fn.entries l.counts l.entries

abbrev pub decreases-loop-met : goal.decreases-loop-met
decreases-loop-met g l = length l.entries.left
