use Rattle.std.proofs.Common.{◌-◌, length}
use Rattle.table_generator.proofs.Settling.{Settled}
use Rattle.table_generator.proofs.displace.displace.Given as goal

abbrev pub invariant-loop-start : goal.invariant-loop-start
invariant-loop-start l = Settled l.pairs l.tried.first l.hashes l.disps.items l.taken.items l.start

abbrev pub decreases-loop-start : goal.decreases-loop-start
decreases-loop-start l = length l.hashes - l.start
