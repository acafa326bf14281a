use Rattle.test_examples.proofs.named_counts.totals_are_those_of_texts.Given as goal

abbrev pub ghosts-are_all_counted_named : goal.ghosts-are_all_counted_named
ghosts-are_all_counted_named g a = record { logs = a.name.logs }
