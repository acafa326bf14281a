use Rattle.interning_speed.proofs.named.measure.Given as goal

-- the name is the one that was just made
abbrev pub ghosts-measure_named : goal.ghosts-measure_named
ghosts-measure_named g a = record { logs = a.name.logs }
