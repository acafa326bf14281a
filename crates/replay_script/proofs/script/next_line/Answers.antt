use Rattle.std.proofs.Common.{rules}
use Rattle.replay_script.proofs.LineLemmas.{first_line, one_line}
use Rattle.replay_script.proofs.script.next_line.Goals as goal

pub returns-in-Some : goal.returns-in-Some
returns-in-Some c = first_line c.args.text.now c.in-Some.line c.in-Some.rest c.in-Some.ensures.cases

pub returns-in-None : goal.returns-in-None
returns-in-None c = (one_line c.args.text.now (search rules) c.in-None.ensures.cases, search rules)
