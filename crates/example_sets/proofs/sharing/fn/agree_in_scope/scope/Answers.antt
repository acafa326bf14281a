use Rattle.std.proofs.Common.{rules}
use Rattle.example_sets.proofs.sharing.fn.agree_in_scope.scope.Goals as goal

-- this thread's atom has its text, and so has the worker's, whoever made it
pub returns : goal.returns
returns g c =
    let right = c.intern-right.ensures in
    search (rules, right)
