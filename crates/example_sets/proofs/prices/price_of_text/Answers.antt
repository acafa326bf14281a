use Rattle.std.proofs.Common.{rules}
use Rattle.example_sets.proofs.prices.price_of_text.Goals as goal

-- the atom that was found has the text
pub returns-in-Some-clause-found : goal.returns-in-Some-clause-found
returns-in-Some-clause-found g c =
    let text = rw c.in-Some.is at c.in_ok-name.ensures.text in
    search (rules, text)

pub returns-in-Some-clause-short : goal.returns-in-Some-clause-short
returns-in-Some-clause-short g c =
    let text = rw c.in-Some.is at c.in_ok-name.ensures.text in
    search (rules, text)
