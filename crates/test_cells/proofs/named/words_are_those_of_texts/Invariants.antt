use Rattle.test_cells.proofs.named.words_are_those_of_texts.Given as goal

abbrev pub ghosts-asks : goal.ghosts-asks
ghosts-asks g a = record { logs = a.name.logs }
