use Rattle.std.proofs.Common.{lit<}
use Rattle.example_sets.proofs.generated.tables_of_names.Goals as goal

-- the last key is the hundredth
pub returns : goal.returns
returns c = (99, lit< tt, c.generate-2.ensures)
