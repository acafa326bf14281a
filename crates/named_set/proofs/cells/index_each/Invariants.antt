use Rattle.std.proofs.Common.{◌++◌, ◌≤◌, length}
use Rattle.std.specs.List.Sorted.{IsPermutation}
use Rattle.named_set.specs.Places.{cells_in}
use Rattle.named_set.proofs.cells.index_each.Given as goal

abbrev pub invariant-loop-at : goal.invariant-loop-at
invariant-loop-at l = (l.at ≤ length l.beside.items) × IsPermutation (cells_in l.fn.slots ++ l.fn.beside.items) (cells_in l.slots ++ l.beside.items)

abbrev pub decreases-loop-at : goal.decreases-loop-at
decreases-loop-at l = l.at
