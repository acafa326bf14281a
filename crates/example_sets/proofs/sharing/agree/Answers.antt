use Rattle.std.proofs.Common.{◌≡◌, rules}
use Rattle.example_sets.proofs.sharing.agree.Goals as goal

-- each atom has the text that its thread was given
pub returns : goal.returns
returns g c =
    let left : c.in_ok-left.field-0.text ≡ c.args.left.now = search (rules, c.join-left.ensures.first) in
    let right : c.in_ok-right.field-0.text ≡ c.args.right.now = search (rules, c.join-left.ensures.second) in
    search (rules, left, right)
