use Rattle.test_commands.proofs.named.end_in_turn.Given as goal

-- the name is the one that was just made
abbrev pub ghosts-end_at : goal.ghosts-end_at
ghosts-end_at g a = record { logs = a.name.logs }
