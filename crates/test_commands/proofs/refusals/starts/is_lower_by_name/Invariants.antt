use Rattle.test_commands.proofs.refusals.starts.is_lower_by_name.Given as goal

-- the name is the one that was just made
abbrev pub ghosts-is_lower_in : goal.ghosts-is_lower_in
ghosts-is_lower_in g a = record { logs = a.name.logs }
