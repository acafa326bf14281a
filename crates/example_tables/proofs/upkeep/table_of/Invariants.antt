use Rattle.std.proofs.Common.{take}
use Rattle.interner_table.specs.Kept.{map_of}
use Rattle.interner_table.specs.Tables.{empty_tables}
use Rattle.example_tables.specs.Known.{AreKnown}
use Rattle.example_tables.proofs.upkeep.table_of.Given as goal

-- the names so far have words
abbrev pub invariant-loop-name : goal.invariant-loop-name
invariant-loop-name l = AreKnown empty_tables (map_of l.table) (take l.name-index l.names)
