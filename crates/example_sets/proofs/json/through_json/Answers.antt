use Rattle.std.proofs.Common.{rules}
use Rattle.example_sets.proofs.json.through_json.Goals as goal

-- the value is the atom's text
pub returns-clause-back : goal.returns-clause-back
returns-clause-back g c =
    let text = c.in_ok-value.ensures.text in
    search (rules, text)
