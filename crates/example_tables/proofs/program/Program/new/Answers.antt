use Rattle.std.proofs.Common.{rules}
use Rattle.example_tables.proofs.program.Program.new.Goals as goal

-- the first table is that of the files
pub returns-clause-files : goal.returns-clause-files
returns-clause-files c =
    let empty = c.in_ok-new.ensures.empty in
    search (rules, empty)
