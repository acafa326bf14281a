use Rattle.std.specs.Prelude.{None}
use Rattle.counted_set.proofs.Quiet.{met_is, prunes_dying, prunes_quiet}
use Rattle.counted_set.proofs.dynamic_set.bucket.prune_left.Goals as goal

pub loop-met-preserved-in-Nothing : goal.loop-met-preserved-in-Nothing
loop-met-preserved-in-Nothing g c =
    λ answer d v p. c.loop-met.invariant answer d v
    (prunes_quiet g.C.Counts.gives g.C.Counts.shows_gone _ _ _ _ (met_is g.C.Counts.gives g.C.Counts.shows_gone None _ _ _ _ _ _ c.in-Nothing.is c.in-Some.ensures) answer d v p)

pub loop-met-preserved : goal.loop-met-preserved
loop-met-preserved g c =
    λ answer d v p. c.loop-met.invariant answer d v
    (prunes_dying g.C.Counts.gives g.C.Counts.shows_gone _ _ _ _ c.in-Dying.field-0 c.in-Dying.gone _ (met_is g.C.Counts.gives g.C.Counts.shows_gone None _ _ _ _ _ _ c.in-Dying.is c.in-Some.ensures) c.take_out.ensures answer d v p)
