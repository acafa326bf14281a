use Rattle.test_cells.proofs.named_threads.is_won.Given as goal

abbrev pub ghosts-is_won_named : goal.ghosts-is_won_named
ghosts-is_won_named g a = record { logs = a.name.logs }
