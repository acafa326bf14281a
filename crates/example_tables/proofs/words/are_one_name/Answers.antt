use Rattle.example_tables.proofs.WordLemmas.{third_is_idle, third_tells}
use Rattle.example_tables.proofs.words.are_one_name.Goals as goal
use Rattle.example_tables.proofs.words.are_one_name.Goals.{then-one-two, else-one-two}

-- each word is equal to the one before it exactly if their texts are
pub returns : goal.returns
returns g c =
    let apart = c.in_ok-two.ensures.same c.in_ok-one.one c.args.first.now c.in_ok-one.ensures.own in
    let also = c.in_ok-three.ensures.same c.in_ok-two.two c.args.second.now c.in_ok-two.ensures.own in
    let words = third_tells c.in_ok-one.one c.in_ok-two.two c.in_ok-three.three c.args.first.now c.args.second.now c.args.third.now apart also c.if-one-two.same in
    let idle = third_is_idle c.in_ok-one.one c.in_ok-two.two c.in_ok-three.three c.args.first.now c.args.second.now c.args.third.now apart also c.if-one-two.same in
    elim c.if-one-two.branch [
      | then-one-two w ↦ words w.if-one-two.true w.same-is
      | else-one-two w ↦ idle w.if-one-two.false w.same-is
    ]
