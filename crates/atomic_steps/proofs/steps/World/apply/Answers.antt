use Rattle.atomic_steps.proofs.runs.Loop.{sound_step}
use Rattle.atomic_steps.proofs.steps.World.apply.Goals as goal

pub invariant_of-self-2 : goal.invariant_of-self-2
invariant_of-self-2 g c = sound_step g.S.StaticTables.tables _ c.args.party c.args.step.now c.in_ok-reply.reply _ c.self.invariant c.in_ok-reply.ensures.ok
