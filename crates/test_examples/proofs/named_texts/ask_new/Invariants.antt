use Rattle.test_examples.proofs.named_texts.ask_new.Given as goal

-- the name is the one that was just made
abbrev pub ghosts-ask_as : goal.ghosts-ask_as
ghosts-ask_as g a = record { logs = a.name.logs }
