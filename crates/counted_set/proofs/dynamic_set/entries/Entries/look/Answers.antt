use Rattle.node_chain.proofs.Packs.{seen_at}
use Rattle.node_chain.specs.Walked.{Walked, IsNext}
use Rattle.counted_set.specs.Chain.{Linked}
use Rattle.std.proofs.Common.{subst}
use Rattle.counted_set.proofs.dynamic_set.entries.Entries.look.Goals as goal

pub returns-in-Some : goal.returns-in-Some
returns-in-Some c =
    let s = c.self.inside in
    subst (λ (w : Walked Linked). IsNext w.left c.get.result) c.self.view_is (seen_at s.at s.chain c.in-Some.pack.now c.in-Some.ensures.0 c.self.invariant c.in-Some.ensures.1 c.get.result c.get.ensures.item)
