use Rattle.named_set.proofs.set.NamedSet.intern.Goals as goal

pub returns-clause-text : goal.returns-clause-text
returns-clause-text g c = c.intern_hashed.ensures.text
