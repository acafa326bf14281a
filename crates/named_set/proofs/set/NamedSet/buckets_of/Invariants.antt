use Rattle.std.proofs.Common.{◌≡◌, ◌+◌, ◌≤◌, vec_len, length}
use Rattle.text_forms.specs.Layout.{most_buckets}
use Rattle.named_set.specs.Names.{AreFirst}
use Rattle.named_set.proofs.set.NamedSet.buckets_of.Given as goal

abbrev pub invariant-loop-bucket : goal.invariant-loop-bucket
invariant-loop-bucket g l =
    AreFirst g.N.SetName.logs l.logs.items × (vec_len l.buckets + vec_len l.logs ≡ vec_len l.initial.logs) × (length g.N.SetName.logs ≡ vec_len l.initial.logs) × (vec_len l.logs ≤ most_buckets)

abbrev pub decreases-loop-bucket : goal.decreases-loop-bucket
decreases-loop-bucket g l = vec_len l.logs
