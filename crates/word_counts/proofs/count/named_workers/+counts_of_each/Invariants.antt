use Rattle.std.proofs.Common.{length}
use Rattle.word_counts.proofs.count.named_workers.+counts_of_each.Given as goal

abbrev pub decreases-counts_of_each : goal.decreases-counts_of_each
decreases-counts_of_each g l = length l.parts.now
