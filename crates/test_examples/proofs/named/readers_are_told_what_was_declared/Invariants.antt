use Rattle.test_examples.proofs.named.readers_are_told_what_was_declared.Given as goal

-- the name is the one that was just made
abbrev pub ghosts-readers_are_told : goal.ghosts-readers_are_told
ghosts-readers_are_told g a = record { logs = a.name.logs }
