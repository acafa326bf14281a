use Rattle.std.proofs.Common.{◌∙◌, refl, arith}
use Rattle.named_set.proofs.bucket.Bucket.prune.Goals as goal

pub loop-at-init : goal.loop-at-init
loop-at-init g c = (c.requires, refl, λ text new. new)

pub prune_at-requires : goal.prune_at-requires
prune_at-requires g c = omega (arith, c.loop-at.invariant.0, c.loop-at-test.true)

pub loop-at-preserved : goal.loop-at-preserved
loop-at-preserved g c =
    let before = c.loop-at.invariant in
    let told = c.prune_at.ensures in
    (told.before, told.same ∙ before.1, λ text new. told.less text (before.2 text new))
