use Rattle.std.proofs.Common.{subst}
use Rattle.counted_set.proofs.Visits.{same_on, visited_on}
use Rattle.counted_set.specs.Visits.{CalledAtText}
use Rattle.counted_set.proofs.dynamic_set.visits.visit_left.Goals as goal

pub loop-entry-preserved : goal.loop-entry-preserved
loop-entry-preserved g c =
    let next = c.in-Some.ensures in let before = c.loop-entry.invariant in
    let w = c.args.entries.now in let u = c.loop-entry.entries in let v = c.keep.new.self in let e = c.in-Some.entry.now in
    let called = subst (λ text. CalledAtText g.F.FnMut c.loop-entry.visit text c.visit_one.new.visit) c.text.ensures c.visit_one.ensures.called in (
      c.visit_one.ensures.callable,
      visited_on g.F.FnMut c.args.visit.now c.loop-entry.visit c.visit_one.new.visit w u v e next.0 next.1 c.keep.ensures called before.1,
      same_on w u v e next.0 next.1 c.keep.ensures before.2,
    )
