use Rattle.example_tables.proofs.program.Program.of_tables.Goals as goal

pub returns-clause-files : goal.returns-clause-files
returns-clause-files c = c.of_table.ensures

pub returns-clause-functions : goal.returns-clause-functions
returns-clause-functions c = c.of_table-2.ensures
