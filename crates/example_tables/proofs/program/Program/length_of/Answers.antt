use Rattle.std.proofs.Common.{rules}
use Rattle.example_tables.proofs.program.Program.length_of.Goals as goal

-- the text that is lent is the one whose word it is
pub returns-in-Some : goal.returns-in-Some
returns-in-Some c = λ text utf8 has.
    let same = c.in-Some.ensures.same text utf8 has in
    search (rules, same)
