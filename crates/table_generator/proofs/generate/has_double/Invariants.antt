use Rattle.std.proofs.Common.{◌≡◌, ℕ, ◌<◌, get_or, []}
use Rattle.table_generator.specs.Generated.{texts_of}
use Rattle.table_generator.proofs.generate.has_double.Given as goal

abbrev pub invariant-loop-i : goal.invariant-loop-i
invariant-loop-i l = (a b : ℕ) → a < b → b < l.i → get_or (texts_of l.list) a [] ≡ get_or (texts_of l.list) b [] → ⊥

abbrev pub invariant-loop-earlier : goal.invariant-loop-earlier
invariant-loop-earlier l = (a : ℕ) → a < l.earlier-index → get_or (texts_of l.list) a [] ≡ get_or (texts_of l.list) l.i [] → ⊥
