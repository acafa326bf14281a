use Rattle.std.proofs.Common.{◌≡◌, length}
use Rattle.atomic_steps.proofs.steps.state.empty_lists.Given as goal

-- one list for each turn
abbrev pub invariant-loop-turn : goal.invariant-loop-turn
invariant-loop-turn l = length l.lists.items ≡ l._turn
