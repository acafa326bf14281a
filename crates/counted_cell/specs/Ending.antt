-- How the owner of a cell may end.
use Rattle.std.specs.Prelude.{◌≡◌}
use Rattle.counted_cell.specs.Counting.{CellName}
use Rattle.counted_cell.specs.declared.ending.Ending.{Ending}
use Rattle.counted_cell.specs.declared.ending.Ending.TheVariants.{Freed, Left}

-- freed, if no share of this very cell is left; or left, if there is one
abbrev pub IsEnding : CellName → Ending → Type 0
IsEnding name (Freed none) = none ≡ name
IsEnding name (Left some) = some ≡ name
