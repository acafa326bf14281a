use Rattle.counted_set.proofs.dynamic_set.bucket.Bucket.for_each.Goals as goal

pub put_entries-requires : goal.put_entries-requires
put_entries-requires g c = let taken = c.take_entries-entries.ensures in rw (taken.left, c.visit_each.ensures.same, taken.entries) taken.kept
