use Rattle.std.proofs.Common.{◌≡◌, rules}
use Rattle.example_named.proofs.atoms.are_one_name.Goals as goal

-- the atoms have the two texts
pub returns : goal.returns
returns g c =
    let left : c.in_ok-left.left.text ≡ c.args.left.now = c.in_ok-left.ensures.text in
    let right : c.in_ok-right.right.text ≡ c.args.right.now = c.in_ok-right.ensures.text in
    search (rules, left, right)
