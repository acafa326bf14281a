use Rattle.std.proofs.Common.{arith}
use Rattle.replay_script.proofs.PrintLemmas.{serial_in-none}
use Rattle.replay_script.proofs.print.serial_of.Goals as goal

pub returns-in_default-2 : goal.returns-in_default-2
returns-in_default-2 c = serial_in-none c.args.word (omega arith) (rw c.in_default.is at c.form_of.ensures).2
