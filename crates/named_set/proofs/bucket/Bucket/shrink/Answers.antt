use Rattle.std.proofs.Common.{length}
use Rattle.named_set.specs.Logged.{IsOf}
use Rattle.named_set.specs.Places.{cells_in}
use Rattle.named_set.proofs.Keeping.{each_permuted, kept_permuted}
use Rattle.named_set.proofs.bucket.Bucket.shrink.Goals as goal

-- the cells as they were, in some order
pub invariant_of-self : goal.invariant_of-self
invariant_of-self g c =
    let inv = c.self.invariant in
    let inside = c.self.inside in
    let linked = cells_in inside.owners in
    let less = cells_in c.shrink.new.self in
    let same = c.shrink.ensures in (
      inv.0,
      inv.1,
      inv.2,
      kept_permuted inside.number linked less inside.log.entries inside.log.gone same inv.3,
      each_permuted (IsOf g.Static.StaticTables.tables g.G.Grant.may (length g.N.SetName.logs) inside.number) linked less same inv.4,
    )
