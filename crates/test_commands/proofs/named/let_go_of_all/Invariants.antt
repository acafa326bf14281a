use Rattle.test_commands.proofs.named.let_go_of_all.Given as goal

-- the name is the one that was just made
abbrev pub ghosts-let_go : goal.ghosts-let_go
ghosts-let_go g a = record { logs = a.name.logs }
