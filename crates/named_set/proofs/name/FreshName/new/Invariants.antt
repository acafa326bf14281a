use Rattle.std.proofs.Common.{◌≡◌, vec_len}
use Rattle.std.specs.List.{AllByRecursion}
use Rattle.named_set.specs.Names.{IsEmpty}
use Rattle.named_set.proofs.name.FreshName.new.Given as goal

abbrev pub invariant-loop : goal.invariant-loop
invariant-loop l = (vec_len l.logs ≡ l.counter) × AllByRecursion IsEmpty l.logs.items
