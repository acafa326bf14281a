use Rattle.std.proofs.Common.{rules}
use Rattle.example_tables.proofs.upkeep.bytes_for_each.Goals as goal

-- the table takes what it tells
pub returns-in_default : goal.returns-in_default
returns-in_default g c = (c.memory.result, c.memory.ensures, search rules, search rules)
