use Rattle.std.proofs.Common.{ap, arith, length}
use Rattle.node_chain.proofs.Packs.{packs_few, packs_some}
use Rattle.node_chain.specs.Walked.{Walked}
use Rattle.counted_set.specs.Chain.{Linked}
use Rattle.counted_set.proofs.dynamic_set.entries.Entries.nodes_left.Goals as goal

pub returns-clause-few : goal.returns-clause-few
returns-clause-few c =
    let s = c.self.inside in let v = c.self.invariant in let few = packs_few s.at s.chain.left v.0 v.2 in
    let shown = ap (λ (w : Walked Linked). length w.left) c.self.view_is in let is = c.remaining.ensures in
    omega (arith, few, shown, is)

pub returns-clause-some : goal.returns-clause-some
returns-clause-some c =
    let s = c.self.inside in let shown = ap (λ (w : Walked Linked). length w.left) c.self.view_is in let is = c.remaining.ensures in
    λ some. let any = packs_some s.at s.chain.left (omega (arith, shown, some)) in omega (arith, any, is)
