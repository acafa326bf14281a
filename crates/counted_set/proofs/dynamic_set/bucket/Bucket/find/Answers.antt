use Rattle.std.proofs.Common.{subst}
use Rattle.counted_set.specs.Chain.{Chain, IsKept, IsRightOf}
use Rattle.counted_set.proofs.Shares.{share_found}
use Rattle.counted_set.proofs.dynamic_set.bucket.Bucket.find.Goals as goal

pub returns-clause-share : goal.returns-clause-share
returns-clause-share g c =
    let tables = g.Static.StaticTables.tables in let may = g.G.Grant.may in
    let kept = subst (λ (b : Chain). IsKept tables may b) c.self.view_is c.self.invariant.1 in
    λ shares. share_found g.C.Counts.gives shares (IsRightOf tables may c.args.self.now.bits) c.args.text.now _ _ _ _ _ kept.right c.pass.ensures.pass
