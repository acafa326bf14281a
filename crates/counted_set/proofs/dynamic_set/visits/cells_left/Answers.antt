use Rattle.std.proofs.Common.{◌+◌, ◌^◌, ◌<◌, ap, subst}
use Rattle.counted_set.proofs.Visits.{same_on, summed_on}
use Rattle.counted_set.proofs.dynamic_set.visits.cells_left.Goals as goal

pub loop-entry-preserved : goal.loop-entry-preserved
loop-entry-preserved c =
    let next = c.in-Some.ensures in let before = c.loop-entry.invariant in
    let w = c.args.entries.now in let u = c.loop-entry.entries in let v = c.keep.new.self in let e = c.in-Some.entry.now in
    let n = c.loop-entry.bytes in let size = c.cell_size.ensures.exact in (
      summed_on n (n + c.cell_size.result) w u v e next.0 next.1 c.keep.ensures (ap (λ k. n + k) size) (subst (λ k. k < 2 ^ 63) size c.cell_size.ensures.few) before.0,
      same_on w u v e next.0 next.1 c.keep.ensures before.1,
    )
