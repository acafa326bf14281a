use Rattle.example_named.proofs.readers.declare_and_look_up_all.Given as goal

-- the name is the one that was just made
abbrev pub ghosts-declare_and_look_up_all_named : goal.ghosts-declare_and_look_up_all_named
ghosts-declare_and_look_up_all_named g a = record { logs = a.name.logs }
