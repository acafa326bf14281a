-- The bytes that the entries of a bucket take.
use Rattle.std.specs.Prelude.{◌≡◌, ℕ, ◌+◌, ◌*◌, ◌<◌, ◌≤◌, List, [], ◌∷◌, length}
use Rattle.counted_cell.specs.Cell.{block_size}
use Rattle.counted_set.specs.Chain.{Linked}

-- the bytes of a node, which has room for four entries
abbrev pub node_size : ℕ
node_size = 48

-- the bytes of these entries' cells, their texts among them
abbrev pub cells_size : List Linked → ℕ
cells_size [] = 0
cells_size (e ∷ es) = block_size e.limit (length e.text) + cells_size es

-- the bytes of the cells, and of some nodes: each has an entry, and there is one if there are entries
pub record IsMemory (es : List Linked) (bytes : ℕ) : Type 0 where
  pub nodes : ℕ
  pub few : nodes ≤ length es
  pub some : 0 < length es → 0 < nodes
  pub sum : bytes ≡ nodes * node_size + cells_size es
