use Rattle.example_tables.proofs.WordLemmas.{two_tell}
use Rattle.example_tables.proofs.symbols.same_word.Goals as goal

-- the second word is equal to the first exactly if their texts are
pub returns : goal.returns
returns c =
    two_tell c.in_ok-first.first c.in_ok-second.second c.args.left.now c.args.right.now
    (c.in_ok-second.ensures.same c.in_ok-first.first c.args.left.now c.in_ok-first.ensures.own)
