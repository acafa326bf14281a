use Rattle.example_tables.proofs.WordLemmas.{two_tell}
use Rattle.example_tables.proofs.words.two_come_and_go.Goals as goal

-- the other word is equal to the first exactly if their texts are
pub returns-then-first_goes_first : goal.returns-then-first_goes_first
returns-then-first_goes_first g c =
    two_tell c.in_ok-one.one c.in-Ok.word c.args.first.now c.args.second.now
    (c.in-Ok.ensures.same c.in_ok-one.one c.args.first.now c.in_ok-one.ensures.own)

pub returns-else-first_goes_first : goal.returns-else-first_goes_first
returns-else-first_goes_first g c =
    two_tell c.in_ok-one.one c.in-Ok.word c.args.first.now c.args.second.now
    (c.in-Ok.ensures.same c.in_ok-one.one c.args.first.now c.in_ok-one.ensures.own)
