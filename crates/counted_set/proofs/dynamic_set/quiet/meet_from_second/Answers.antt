use Rattle.std.proofs.Common.{refl}
use Rattle.counted_set.proofs.Quiet.{meets_on, meets_stop}
use Rattle.counted_set.proofs.dynamic_set.quiet.meet_from_second.Goals as goal

pub returns-in-Nothing : goal.returns-in-Nothing
returns-in-Nothing g c =
    meets_on g.C.Counts.gives g.C.Counts.shows_gone c.args.wanted 1 2 _ _ _ c.in-Some.entry.now _ _ c.meet_from_third.result refl c.in-Some.ensures.item c.in-Nothing.ensures c.meet_from_third.ensures

pub returns-in_default : goal.returns-in_default
returns-in_default g c =
    meets_stop g.C.Counts.gives g.C.Counts.shows_gone c.args.wanted 1 _ _ c.in-Some.entry.now _ _ c.meet.result c.in-Some.ensures.item c.in_default.not-Nothing c.meet.ensures
