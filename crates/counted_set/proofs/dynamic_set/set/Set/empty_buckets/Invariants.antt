use Rattle.std.proofs.Common.{◌≡◌, vec_len}
use Rattle.counted_set.proofs.dynamic_set.set.Set.empty_buckets.Given as goal

abbrev pub invariant-loop : goal.invariant-loop
invariant-loop g l = vec_len l.buckets ≡ l.counter
