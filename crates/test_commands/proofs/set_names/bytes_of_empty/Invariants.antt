use Rattle.test_commands.proofs.set_names.bytes_of_empty.Given as goal

-- the name is the one that was just made
abbrev pub ghosts-bytes_named : goal.ghosts-bytes_named
ghosts-bytes_named g a = record { logs = a.name.logs }
