use Rattle.example_tables.proofs.program.Program.declare.Goals as goal

-- the function's name is that of its text
pub returns-clause-function : goal.returns-clause-function
returns-clause-function c = c.in_ok-intern-2.ensures.interned.word
