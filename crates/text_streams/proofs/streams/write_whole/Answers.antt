use Rattle.std.proofs.Common.{rules, ◌≡◌}
use Rattle.std.proofs.lemmas.List.{take_rest}
use Rattle.text_streams.proofs.StreamLemmas.{appends_more, beginning_of_take, keeps_none}
use Rattle.text_streams.proofs.streams.write_whole.Goals as goal

pub returns-in_default-clause-err : goal.returns-in_default-clause-err
returns-in_default-clause-err g c = beginning_of_take _ _ _ c.args.bytes.now c.loop-at.at c.loop-at.invariant.2 c.in_default.ensures.bytes

pub returns-then-n-eq0-clause-err : goal.returns-then-n-eq0-clause-err
returns-then-n-eq0-clause-err g c =
    let none : c.in-Ok.n ≡ 0 = search rules in
    beginning_of_take _ _ _ c.args.bytes.now c.loop-at.at c.loop-at.invariant.2 (keeps_none _ _ (rw none at c.in-Ok.ensures.bytes))

pub loop-at-preserved : goal.loop-at-preserved
loop-at-preserved g c =
    (search rules, search rules, appends_more _ _ _ c.args.bytes.now c.loop-at.at c.in-Ok.n c.loop-at.invariant.2 (rw (take_rest c.args.bytes.now c.loop-at.at) at c.in-Ok.ensures.bytes))
