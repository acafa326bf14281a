use Rattle.std.proofs.Common.{◌≡◌, ◌≤◌, ◌<◌, ◌+◌, ◌*◌, ◌++◌, List, ℕ}
use Rattle.std.specs.VecDeque.{deque_len}
use Rattle.word_counts.specs.MergedCounts.{AreCountsOf, all_counted_texts}
use Rattle.word_counts.proofs.count.merge.merge_pairs.Given as goal

abbrev pub invariant-loop-front : goal.invariant-loop-front
invariant-loop-front g l = record {
  whole : (words : List (List ℕ)) → AreCountsOf words (all_counted_texts l.fn.lists.items) → AreCountsOf words (all_counted_texts l.merged.items ++ all_counted_texts l.lists.items);
  halved : 2 * deque_len l.merged + deque_len l.lists ≤ deque_len l.fn.lists + 1;
  even : 0 < deque_len l.lists → 2 * deque_len l.merged + deque_len l.lists ≡ deque_len l.fn.lists;
}

abbrev pub decreases-loop-front : goal.decreases-loop-front
decreases-loop-front g l = deque_len l.lists
