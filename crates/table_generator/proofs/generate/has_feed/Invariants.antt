use Rattle.std.proofs.Common.{ℕ, ◌<◌, get_or, []}
use Rattle.std.specs.List.{Contains}
use Rattle.table_generator.specs.Generated.{texts_of}
use Rattle.table_generator.proofs.generate.has_feed.Given as goal

abbrev pub invariant-loop-text : goal.invariant-loop-text
invariant-loop-text l = (k : ℕ) → k < l.text-index → Contains (get_or (texts_of l.list) k []) 10 → ⊥
