use Rattle.std.proofs.Common.{◌≡◌, ℕ, ◌<◌, ◌≤◌, [], get_or, map}
use Rattle.table_generator.proofs.items.repeats_earlier.Given as goal

abbrev pub invariant-loop-at : goal.invariant-loop-at
invariant-loop-at l =
    (k : ℕ) → l.at ≤ k → k < l.index → get_or (map (λ item. item.text.now) l.items) k [] ≡ get_or (map (λ item. item.text.now) l.items) l.index [] → ⊥
