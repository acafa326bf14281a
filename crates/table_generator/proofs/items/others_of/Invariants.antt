use Rattle.std.proofs.Common.{◌≡◌, ◌≤◌, length}
use Rattle.std.specs.List.{All}
use Rattle.table_generator.proofs.items.others_of.Given as goal

abbrev pub invariant-loop-text : goal.invariant-loop-text
invariant-loop-text l = record {
  count : length l.others.items ≡ l.pairs;
  most : All (λ n. n ≤ length l.list) l.others.items;
}
