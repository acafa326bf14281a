use Rattle.std.proofs.Common.{◌≡◌, ℕ, ◌<◌, [], get_or, map}
use Rattle.table_generator.proofs.items.has_repeat.Given as goal

abbrev pub invariant-loop-index : goal.invariant-loop-index
invariant-loop-index l =
    (i j : ℕ) → i < j → j < l.index → get_or (map (λ item. item.text.now) l.items) i [] ≡ get_or (map (λ item. item.text.now) l.items) j [] → ⊥
