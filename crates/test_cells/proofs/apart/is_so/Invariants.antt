use Rattle.test_cells.proofs.apart.is_so.Given as goal

abbrev pub ghosts-is_so_as : goal.ghosts-is_so_as
ghosts-is_so_as g a = record { logs = a.name.logs }
