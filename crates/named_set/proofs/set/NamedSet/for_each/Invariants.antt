use Rattle.named_set.proofs.set.NamedSet.for_each.Given as goal

abbrev pub invariant-loop-bucket : goal.invariant-loop-bucket
invariant-loop-bucket g l = goal.F-IsAlwaysCallable g l.visit
