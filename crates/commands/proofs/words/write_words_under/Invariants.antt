use Rattle.commands.proofs.words.write_words_under.Given as goal

-- the name is the one that was just made
abbrev pub ghosts-write_words_named : goal.ghosts-write_words_named
ghosts-write_words_named g a = record { logs = a.name.logs }
