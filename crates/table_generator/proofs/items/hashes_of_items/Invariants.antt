use Rattle.std.proofs.Common.{◌≡◌, map, take}
use Rattle.table_generator.proofs.items.hashes_of_items.Given as goal

abbrev pub invariant-loop-item : goal.invariant-loop-item
invariant-loop-item l = l.hashes.items ≡ map (λ item. item.hashes) (take l.item-index l.items)
