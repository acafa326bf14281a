use Rattle.std.proofs.Common.{nat_lt, rules, tests}
use Rattle.std.proofs.lemmas.Iterator.Consumers.{YieldsList-from_rest}
use Rattle.std.proofs.lemmas.Iterator.Search.{any_from_yields_List}
use Rattle.interner_table.specs.HeldText.{pair_of}
use Rattle.interner_table.specs.Kept.{Pair}
use Rattle.example_tables.proofs.upkeep.any_shared.Goals as goal

-- the iterator gives the table's pairs, and each is tested
pub returns : goal.returns
returns g c = any_from_yields_List (λ (pair : Pair). nat_lt 1 pair.1.holders) _ _ _ c.any.ensures.ran (YieldsList-from_rest {shows = pair_of} c.args.table.now.pairs c.iter.ensures.texts) (λ x b q k. search (rules, tests))
