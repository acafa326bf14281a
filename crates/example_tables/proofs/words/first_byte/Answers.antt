use Rattle.std.proofs.Common.{rules}
use Rattle.interner_table.specs.Table.{IsWordOf}
use Rattle.example_tables.proofs.words.first_byte.Goals as goal

-- the text that is lent is the one whose word it is
pub returns-in-Some-clause-first : goal.returns-in-Some-clause-first
unfolding IsWordOf
returns-in-Some-clause-first g c = λ text is held.
    let same = c.in-Some.ensures.same text is.0 is.1 in
    search (rules, same)
