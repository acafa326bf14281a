use Rattle.example_hello_named.proofs.meet.Given as goal

-- the name is the one that was just made
abbrev pub ghosts-meet_named : goal.ghosts-meet_named
ghosts-meet_named g a = record { logs = a.name.logs }
