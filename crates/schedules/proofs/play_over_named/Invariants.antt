use Rattle.schedules.proofs.play_over_named.Given as goal

-- the name is the one that was just made
abbrev pub ghosts-play_over_name : goal.ghosts-play_over_name
ghosts-play_over_name g a = record { logs = a.name.logs }
