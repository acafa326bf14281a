use Rattle.test_atoms.proofs.sets.ask_named.Given as goal

-- the name is the one that was just made
abbrev pub ghosts-ask_named_as : goal.ghosts-ask_named_as
ghosts-ask_named_as g a = record { logs = a.name.logs }
