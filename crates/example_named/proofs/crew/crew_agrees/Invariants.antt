use Rattle.example_named.proofs.crew.crew_agrees.Given as goal

-- the name is the one that was just made
abbrev pub ghosts-crew_agrees_named : goal.ghosts-crew_agrees_named
ghosts-crew_agrees_named g a = record { logs = a.name.logs }
