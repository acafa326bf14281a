use Rattle.std.proofs.Common.{rules}
use Rattle.example_sets.proofs.generated.prints_well.Goals as goal

-- what the tables print is accepted exactly if it is the printed form of perfect tables, and it is
pub returns-in-Ok : goal.returns-in-Ok
returns-in-Ok c =
    let spelled = c.in-Ok.ensures.spelled in
    let printed = c.in_ok-tables.ensures.printed in
    search (rules, spelled, printed)
