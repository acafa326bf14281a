use Rattle.std.proofs.Common.{ℕ, ◌<◌}
use Rattle.table_generator.specs.Places.{Fits}
use Rattle.table_generator.proofs.search.find_within.Given as goal

abbrev pub invariant-loop-d1 : goal.invariant-loop-d1
invariant-loop-d1 l = (e1 e2 : ℕ) → e1 < l.d1 → e2 < l.tried.second → Fits l.taken l.members (e1, e2) → ⊥

abbrev pub invariant-loop-d2 : goal.invariant-loop-d2
invariant-loop-d2 l = (e2 : ℕ) → e2 < l.d2 → Fits l.taken l.members (l.d1, e2) → ⊥
