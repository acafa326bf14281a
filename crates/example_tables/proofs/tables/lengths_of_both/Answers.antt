use Rattle.std.proofs.Common.{rules}
use Rattle.example_tables.proofs.tables.lengths_of_both.Goals as goal

-- the second thread measures the second word
pub returns-clause-right : goal.returns-clause-right
returns-clause-right g c =
    let right = c.join.ensures.second in
    search (rules, right)
