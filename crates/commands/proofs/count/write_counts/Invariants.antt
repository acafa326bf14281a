use Rattle.commands.proofs.count.write_counts.Given as goal

-- the name is the one that was just made
abbrev pub ghosts-write_counts_named : goal.ghosts-write_counts_named
ghosts-write_counts_named g a = record { logs = a.name.logs }
