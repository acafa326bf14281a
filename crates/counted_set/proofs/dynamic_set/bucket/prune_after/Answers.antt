use Rattle.std.proofs.lemmas.Bool.{false≢true}
use Rattle.counted_set.proofs.Passes.{none_behind}
use Rattle.counted_set.proofs.dynamic_set.bucket.prune_after.Goals as goal

pub returns-else-has_more : goal.returns-else-has_more
returns-else-has_more g c = none_behind g.C.Counts.gives c.args.counts.now c.args.decided.now c.requires (λ more. false≢true (c.if-has_more.ensures.1 more))
