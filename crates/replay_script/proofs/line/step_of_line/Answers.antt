use Rattle.std.proofs.Common.{rules}
use Rattle.replay_script.proofs.CutLemmas.{no_step_line}
use Rattle.replay_script.proofs.line.step_of_line.Goals as goal

pub returns-in_default-2 : goal.returns-in_default-2
returns-in_default-2 c = no_step_line c.args.line.now c.in-Some.words.now c.in-Some.party (search rules) (search rules) (rw c.in_default-2.is at c.in_ok-step.ensures)
