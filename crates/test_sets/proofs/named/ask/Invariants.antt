use Rattle.test_sets.proofs.named.ask.Given as goal

-- the name is the one that was just made
abbrev pub ghosts-ask_as : goal.ghosts-ask_as
ghosts-ask_as g a = record { logs = a.name.logs }
