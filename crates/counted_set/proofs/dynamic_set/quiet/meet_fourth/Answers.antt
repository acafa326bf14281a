use Rattle.counted_set.proofs.Quiet.{meets_last, meets_none}
use Rattle.counted_set.proofs.dynamic_set.quiet.meet_fourth.Goals as goal

pub returns-in-Some-clause-met : goal.returns-in-Some-clause-met
returns-in-Some-clause-met g c =
    meets_last g.C.Counts.gives g.C.Counts.shows_gone c.args.wanted 3 _ _ c.in-Some.entry.now _ _ c.meet.result c.in-Some.ensures.item c.get.ensures.few c.meet.ensures

pub returns-in-None-clause-met : goal.returns-in-None-clause-met
returns-in-None-clause-met g c = meets_none g.C.Counts.gives g.C.Counts.shows_gone c.args.wanted 3 _ _ c.in-None.ensures.item
