use Rattle.counted_set.proofs.dynamic_set.set.Set.for_each.Given as goal

abbrev pub invariant-loop-bucket : goal.invariant-loop-bucket
invariant-loop-bucket g l = goal.F-IsAlwaysCallable g l.visit
