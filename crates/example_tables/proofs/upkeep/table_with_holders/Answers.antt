use Rattle.std.proofs.Common.{◌∙◌, ap, rules}
use Rattle.interner_table.specs.Bounds.{Bounds}
use Rattle.example_tables.proofs.upkeep.table_with_holders.Goals as goal

-- the limits are those that were asked for
pub returns-in_ok-with_limits-in-Some-clause-none : goal.returns-in_ok-with_limits-in-Some-clause-none
returns-in_ok-with_limits-in-Some-clause-none c =
    let range = c.in-Some.ensures.range in
    search (rules, range)

pub returns-in_ok-with_limits-in-Some-clause-limits : goal.returns-in_ok-with_limits-in-Some-clause-limits
returns-in_ok-with_limits-in-Some-clause-limits c = ap (λ (limits : Bounds). limits.holders) (c.in_ok-with_limits-in-Some.ensures.limits ∙ c.in-Some.ensures.limits)
