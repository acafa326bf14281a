use Rattle.std.proofs.Common.{sym, subst, ◌^◌}
use Rattle.atomic_steps.specs.Sound.{SoundWorld}
use Rattle.atomic_steps.proofs.passes.Goes.{held_opening}
use Rattle.atomic_steps.proofs.steps.World.with_buckets.Goals as goal

pub invariant_of-result : goal.invariant_of-result
invariant_of-result g c =
    let tables = g.S.StaticTables.tables in
    let few = c.in_ok-state.ensures.few in
    subst (SoundWorld tables) (sym c.in_ok-state.ensures.ok) (held_opening tables c.args.limits (2 ^ c.args.buckets) few.0 few.1)
