use Rattle.std.proofs.Common.{rules, arith}
use Rattle.text_forms.proofs.NumberLemmas.{number_unique}
use Rattle.replay_script.proofs.line.entry_after.Goals as goal

pub returns-then-e-eq0 : goal.returns-then-e-eq0
returns-then-e-eq0 c = λ n range e. absurd (omega (arith, range.0, number_unique c.args.text.now c.args.words.now n c.in_ok-e.e range.1 (omega arith) e (search rules)))
