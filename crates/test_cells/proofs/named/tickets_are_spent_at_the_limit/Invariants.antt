use Rattle.test_cells.proofs.named.tickets_are_spent_at_the_limit.Given as goal

abbrev pub ghosts-spends : goal.ghosts-spends
ghosts-spends g a = record { logs = a.name.logs }
