-- What clauses see of entries and their shares.
use Rattle.counted_cell.specs.Cell.{Cell}
use Rattle.counted_set.specs.Chain.{Linked}

-- what a cell is to a bucket, whose bits the cell's note is; the limit is that of the cell's count
abbrev pub linked_of : Cell → Linked
linked_of c = record { ticket = c.label.ticket; text = c.text; hash = c.label.hash; bits = c.note; limit = c.name.limit; name = c.name }
