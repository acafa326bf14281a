use Rattle.std.proofs.Common.{◌≡◌, ◌≤◌, length}
use Rattle.named_set.specs.Logged.{LinksNoMore}
use Rattle.named_set.specs.Places.{cells_in}
use Rattle.named_set.proofs.bucket.Bucket.prune.Given as goal

abbrev pub invariant-loop-at : goal.invariant-loop-at
invariant-loop-at g l = (l.at ≤ length l.self.places) × (l.self.number ≡ l.fn.self.number) × LinksNoMore (cells_in l.fn.self.places) (cells_in l.self.places)

abbrev pub decreases-loop-at : goal.decreases-loop-at
decreases-loop-at g l = l.at
