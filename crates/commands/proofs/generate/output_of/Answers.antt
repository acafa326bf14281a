use Rattle.std.proofs.Common.{rules}
use Rattle.commands.proofs.TableCommandLemmas.{making_fault, told_fault}
use Rattle.commands.proofs.generate.output_of.Goals as goal

pub returns-in_err-tables-clause-fault : goal.returns-in_err-tables-clause-fault
returns-in_err-tables-clause-fault c =
    let g = c.in_err-tables.field-0.0 in
    making_fault _ c.from_residual-in_err-tables.result g (search rules)
    (told_fault _ _ c.args.key c.args.bound c.generate.result g c.generate.ensures (search rules) (search rules))
