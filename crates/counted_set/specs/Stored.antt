-- The nodes of a bucket at rest.
use Rattle.std.specs.Prelude.{◌≡◌, ℕ, List, length}
use Rattle.counted_set.specs.Chain.{Linked}
use Rattle.node_chain.specs.Packs.{HaveItems}

-- there are this many nodes, and each has an entry
abbrev pub AreStored : ℕ → List (List Linked) → Type 0
AreStored number nodes = (number ≡ length nodes) × HaveItems nodes
