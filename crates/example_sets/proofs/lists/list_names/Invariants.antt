use Rattle.std.proofs.Common.{◌≡◌, map, take}
use Rattle.string_cache.specs.AtomList.{texts_of}
use Rattle.example_sets.proofs.lists.list_names.Given as goal

abbrev pub invariant-loop-name : goal.invariant-loop-name
invariant-loop-name g l = texts_of l.list ≡ map (λ name. name.now) (take l.name-index l.names)
