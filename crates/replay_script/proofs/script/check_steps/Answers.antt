use Rattle.std.proofs.Common.{rules}
use Rattle.replay_script.proofs.LineLemmas.{reading_begins, reading_next}
use Rattle.replay_script.proofs.script.check_steps.Goals as goal

pub loop-line-init : goal.loop-line-init
loop-line-init c = (search rules, reading_begins c.args.text.now c.args.before)

pub loop-line-preserved : goal.loop-line-preserved
loop-line-preserved c =
    (search rules, reading_next c.loop-line.invariant.1 c.in-Some.line.now c.in-Some.after.now c.in-Some-2.step c.in-Some.ensures.0 c.in-Some.ensures.1 (rw c.in-Some-2.is at c.in_ok-step.ensures))
