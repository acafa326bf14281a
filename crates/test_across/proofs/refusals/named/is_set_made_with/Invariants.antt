use Rattle.test_across.proofs.refusals.named.is_set_made_with.Given as goal

abbrev pub ghosts-is_set_made : goal.ghosts-is_set_made
ghosts-is_set_made g a = record { logs = a.name.logs }
