-- What clauses see of the name of a set, and of a set.
use Rattle.std.specs.Prelude.{◌≡◌, ℕ, List, [], length, map, take}
use Rattle.std.specs.List.{AllByRecursion}
use Rattle.text_forms.specs.Bounds.{Bounds}
use Rattle.counted_cell.specs.declared.cell_log.CellLog.{CellLog}

-- the bits of the usual number of buckets
abbrev pub usual_set_bits : ℕ
usual_set_bits = 8

-- a name that no set has: the names of its logs, and the bits of their number, which is 2 ^ bits
pub record Fresh : Type 0 where
  pub logs : List ℕ
  pub bits : ℕ

-- a log without entries
abbrev pub IsEmpty : CellLog → Type 0
IsEmpty l = (l.entries ≡ []) × (l.gone ≡ [])

-- these logs are without entries, and have the first of the names, as many as they are
pub record AreFirst (names : List ℕ) (logs : List CellLog) : Type 0 where
  pub named : map (λ l. l.name) logs ≡ take (length logs) names
  pub empty : AllByRecursion IsEmpty logs

-- a set: its limits, and the bits of the number of its buckets, of which there are 2 ^ bits
pub record SetValue : Type 0 where
  pub limits : Bounds
  pub bits : ℕ
