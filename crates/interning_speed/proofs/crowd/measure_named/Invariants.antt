use Rattle.interning_speed.proofs.crowd.measure_named.Given as goal

-- the name is the one that was just made
abbrev pub ghosts-measure_under : goal.ghosts-measure_under
ghosts-measure_under g a = record { logs = a.name.logs }
