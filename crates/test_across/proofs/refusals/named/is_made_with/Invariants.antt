use Rattle.test_across.proofs.refusals.named.is_made_with.Given as goal

abbrev pub ghosts-is_made : goal.ghosts-is_made
ghosts-is_made g a = record { logs = a.name.logs }
