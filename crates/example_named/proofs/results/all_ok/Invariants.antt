use Rattle.std.proofs.Common.{◌≡◌, ◌++◌, length}
use Rattle.std.specs.Vec.Iter.{into_iter_items, into_iter_len}
use Rattle.example_named.specs.Results.{oks}
use Rattle.example_named.proofs.results.all_ok.Given as goal

abbrev pub invariant-loop-item : goal.invariant-loop-item
invariant-loop-item g l = (oks l.values.items ++ into_iter_items l.item-iterator ≡ into_iter_items l.initial.item-iterator) × (into_iter_len l.item-iterator ≡ length (into_iter_items l.item-iterator))
