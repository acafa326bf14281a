use Rattle.std.proofs.Common.{List, ℕ}
use Rattle.std.specs.VecDeque.{deque_len}
use Rattle.word_counts.specs.MergedCounts.{AreCountsOf, all_counted_texts}
use Rattle.word_counts.proofs.count.merge.merge_here.Given as goal

abbrev pub invariant-loop-lists : goal.invariant-loop-lists
invariant-loop-lists g l = (words : List (List ℕ)) → AreCountsOf words (all_counted_texts l.fn.lists.items) → AreCountsOf words (all_counted_texts l.lists.items)

abbrev pub decreases-loop-lists : goal.decreases-loop-lists
decreases-loop-lists g l = deque_len l.lists
