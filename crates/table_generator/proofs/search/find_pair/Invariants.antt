use Rattle.std.proofs.Common.{◌-◌, ◌≤◌}
use Rattle.table_generator.proofs.search.find_pair.Given as goal

abbrev pub invariant-loop-within : goal.invariant-loop-within
invariant-loop-within l = 1 ≤ l.within

abbrev pub decreases-loop-within : goal.decreases-loop-within
decreases-loop-within l = l.tried.second - l.within
