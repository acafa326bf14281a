use Rattle.std.proofs.Common.{◌≡◌}
use Rattle.text_forms.specs.Phf.{rounds}
use Rattle.text_forms.proofs.phf.Sip.rounds.Given as goal

abbrev pub invariant-loop-turn : goal.invariant-loop-turn
invariant-loop-turn l = l.self ≡ rounds l._turn l.initial.self
