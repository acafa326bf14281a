use Rattle.std.proofs.Common.{rules}
use Rattle.commands.proofs.CommandLemmas.{generates}
use Rattle.commands.proofs.program.making.Goals as goal

pub returns : goal.returns
returns c =
    generates c.args.word.now c.args.key.now c.args.bound.now c.in-Some.key c.in-Some-short_number_of.bound (search rules)
    c.in-Some.ensures c.in-Some-short_number_of.ensures (search rules)
