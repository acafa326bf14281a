use Rattle.example_named.proofs.words.are_one_word.Given as goal

-- the name is the one that was just made
abbrev pub ghosts-are_one_word_named : goal.ghosts-are_one_word_named
ghosts-are_one_word_named g a = record { logs = a.name.logs }
