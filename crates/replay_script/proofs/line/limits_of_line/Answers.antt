use Rattle.std.proofs.Common.{rules, arith}
use Rattle.replay_script.proofs.CutLemmas.{limits_cut, limits_made}
use Rattle.replay_script.proofs.line.limits_of_line.Goals as goal

pub returns-in_default-number_of : goal.returns-in_default-number_of
returns-in_default-number_of c = λ l spells.
    c.in_default-number_of.ensures l.serials (omega (arith, spells.0.3))
    (limits_cut c.args.line.now c.in-Some.rest.now c.in-Some.holders c.in-Some.ensures.0 (search rules) l spells).1

pub returns : goal.returns
returns c = limits_made c.args.line.now c.in-Some.holders c.in-Some-number_of.serials c.in-Some.ensures.0 (omega arith) (search rules) c.new.result c.new.ensures.range c.new.ensures.limits
