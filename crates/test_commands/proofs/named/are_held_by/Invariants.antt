use Rattle.test_commands.proofs.named.are_held_by.Given as goal

-- the name is the one that was just made
abbrev pub ghosts-are_held : goal.ghosts-are_held
ghosts-are_held g a = record { logs = a.name.logs }
