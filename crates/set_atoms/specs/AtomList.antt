-- What clauses see of a list of atoms, besides the atoms themselves.
use Rattle.std.specs.Prelude.{ℕ, List, map}
use Rattle.set_atoms.specs.AtomValue.{AtomValue}

-- their texts, in order
abbrev pub texts_of : List AtomValue → List (List ℕ)
texts_of atoms = map (λ atom. atom.text) atoms
