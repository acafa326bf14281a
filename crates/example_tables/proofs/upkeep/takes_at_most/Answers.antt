use Rattle.std.proofs.Common.{rules}
use Rattle.example_tables.proofs.upkeep.takes_at_most.Goals as goal

-- the table takes what it tells
pub returns : goal.returns
returns g c = (c.memory.result, c.memory.ensures, search rules)
