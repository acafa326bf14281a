use Rattle.std.proofs.Common.{◌≡◌, ℕ, ◌<◌}
use Rattle.text_forms.specs.Tables.{place_in, text_at}
use Rattle.text_forms.proofs.static_sets.are_perfect.Given as goal

abbrev pub invariant-loop-index : goal.invariant-loop-index
invariant-loop-index g l = (k : ℕ) → k < l.index → place_in g.S.StaticTables.tables (text_at g.S.StaticTables.tables k) ≡ k
