use Rattle.std.proofs.Common.{rules}
use Rattle.set_atoms.proofs.atom.list.ListOf.push_str.Goals as goal

-- the atom behind the others is the one that was made
pub returns-clause-pushed : goal.returns-clause-pushed
returns-clause-pushed g c = (c.in_ok-atom.atom, search rules, search rules)
