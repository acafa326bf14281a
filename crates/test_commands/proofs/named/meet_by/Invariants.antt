use Rattle.test_commands.proofs.named.meet_by.Given as goal

-- the name is the one that was just made
abbrev pub ghosts-meet : goal.ghosts-meet
ghosts-meet g a = record { logs = a.name.logs }
