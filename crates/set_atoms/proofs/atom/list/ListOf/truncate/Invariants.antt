use Rattle.std.proofs.Common.{◌≡◌, ◌+◌, length, take}
use Rattle.set_atoms.proofs.atom.list.ListOf.truncate.Given as goal

abbrev pub invariant-loop-turn : goal.invariant-loop-turn
invariant-loop-turn g l = (take l.len l.self ≡ take l.len l.initial.self) × (length l.self + l._turn ≡ length l.initial.self + l.len)
