-- A cell as an entry of a log.
use Rattle.counted_cell.specs.Cell.{Cell}
use Rattle.counted_cell.specs.CellLog.{Entry}

-- a cell as an entry: its text, its ticket and its name
abbrev pub entry_of : Cell → Entry
entry_of c = record { text = c.text; ticket = c.label.ticket; name = c.name }
