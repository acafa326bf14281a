use Rattle.std.proofs.Common.{rules}
use Rattle.example_sets.proofs.json.load.Goals as goal

-- the value is what was read
pub returns : goal.returns
returns g c =
    let value = c.in_ok-value.ensures.ok in
    search (rules, value)
