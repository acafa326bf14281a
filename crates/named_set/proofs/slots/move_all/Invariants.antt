use Rattle.std.proofs.Common.{◌≡◌, ℕ, ◌+◌, ◌≤◌, ◌++◌, length, map, vec_len, vec_capacity}
use Rattle.std.specs.List.Sorted.{IsPermutation}
use Rattle.named_set.specs.Places.{cells_in}
use Rattle.named_set.specs.Slots.{HaveShorts, IsIndex, cell_at}
use Rattle.named_set.proofs.slots.move_all.Given as goal

abbrev pub invariant-loop-slot : goal.invariant-loop-slot
invariant-loop-slot l = record {
  room : length (cells_in (map cell_at l.before.items)) + vec_len l.spare ≤ vec_capacity l.spare;
  index : (multiplier : ℕ) → IsIndex multiplier l.fn.slots → HaveShorts multiplier l.fn.before.items → IsIndex multiplier l.slots × HaveShorts multiplier l.before.items;
  cells : IsPermutation (cells_in (map cell_at l.fn.before.items) ++ (cells_in (map cell_at l.fn.slots) ++ l.fn.spare.items)) (cells_in (map cell_at l.before.items) ++ (cells_in (map cell_at l.slots) ++ l.spare.items));
  count : l.moved + length (cells_in (map cell_at l.fn.slots)) ≡ length (cells_in (map cell_at l.slots));
}

abbrev pub decreases-loop-slot : goal.decreases-loop-slot
decreases-loop-slot l = vec_len l.before
