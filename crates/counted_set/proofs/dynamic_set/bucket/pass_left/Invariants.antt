use Rattle.std.proofs.Common.{◌≡◌, length}
use Rattle.std.specs.List.{AllByRecursion}
use Rattle.std.specs.Prelude.{Some}
use Rattle.counted_set.proofs.Passes.{Goes}
use Rattle.counted_set.proofs.dynamic_set.bucket.pass_left.Given as goal

abbrev pub invariant-loop-entry : goal.invariant-loop-entry
invariant-loop-entry g l = Goes g.C.Counts.gives (Some l.text) l.fn.counts l.fn.entries l.counts l.entries × AllByRecursion (λ e. (e.text ≡ l.text → e.hash ≡ l.hash) × g.G.Grant.may e.name) l.entries.left

abbrev pub decreases-loop-entry : goal.decreases-loop-entry
decreases-loop-entry g l = length l.entries.left
