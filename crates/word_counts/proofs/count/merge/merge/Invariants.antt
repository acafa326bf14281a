use Rattle.std.proofs.Common.{◌≡◌, ◌+◌, ◌++◌, ◌^◌, ◌<◌}
use Rattle.std.specs.List.{All}
use Rattle.std.specs.VecDeque.{deque_len}
use Rattle.word_counts.specs.MergedCounts.{merged}
use Rattle.word_counts.specs.WordCounts.{counted_texts}
use Rattle.word_counts.proofs.count.merge.merge.Given as goal

abbrev pub invariant-loop-pair : goal.invariant-loop-pair
invariant-loop-pair g l = record {
  front : All (λ pair. pair.1 < 2 ^ 63) (counted_texts l.front.items);
  back : All (λ pair. pair.1 < 2 ^ 63) (counted_texts l.back.items);
  whole : counted_texts l.counts.items ++ merged (counted_texts l.front.items) (counted_texts l.back.items) ≡ merged (counted_texts l.fn.front.items) (counted_texts l.fn.back.items);
}

abbrev pub decreases-loop-pair : goal.decreases-loop-pair
decreases-loop-pair g l = deque_len l.front + deque_len l.back
