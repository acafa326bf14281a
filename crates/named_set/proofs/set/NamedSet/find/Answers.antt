use Rattle.named_set.proofs.set.NamedSet.find.Goals as goal

pub returns-clause-text : goal.returns-clause-text
returns-clause-text g c = c.find_hashed.ensures.text
