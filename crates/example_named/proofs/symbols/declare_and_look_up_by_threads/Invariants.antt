use Rattle.example_named.proofs.symbols.declare_and_look_up_by_threads.Given as goal

-- the name is the one that was just made
abbrev pub ghosts-declare_and_look_up_by_threads_named : goal.ghosts-declare_and_look_up_by_threads_named
ghosts-declare_and_look_up_by_threads_named g a = record { logs = a.name.logs }
