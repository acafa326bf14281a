-- What an iterator over a table's texts gives.
use Rattle.interner_table.specs.declared.table.iter.HeldText.{HeldText}
use Rattle.interner_table.specs.Kept.{Pair}

-- an item of the iterator as a pair: its text, its ticket and its holders
abbrev pub pair_of : HeldText → Pair
pair_of item = (item.text.now, record { ticket = item.word; holders = item.holders })
