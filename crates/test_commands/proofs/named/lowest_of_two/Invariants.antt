use Rattle.test_commands.proofs.named.lowest_of_two.Given as goal

-- the name is the one that was just made
abbrev pub ghosts-lowest : goal.ghosts-lowest
ghosts-lowest g a = record { logs = a.name.logs }
