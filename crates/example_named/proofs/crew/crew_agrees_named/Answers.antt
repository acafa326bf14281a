use Rattle.example_named.proofs.crew.crew_agrees_named.Goals as goal

pub returns : goal.returns
returns g c = rw (← c.as_slice.ensures.value) c.crew_agrees_in.ensures
