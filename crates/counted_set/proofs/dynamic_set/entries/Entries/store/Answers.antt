use Rattle.std.proofs.Common.{◌++◌, ap, ◌∙◌}
use Rattle.node_chain.proofs.Packs.{at_start_stored}
use Rattle.node_chain.specs.Packs.{joined}
use Rattle.counted_set.proofs.dynamic_set.entries.Entries.store.Goals as goal

pub store-requires : goal.store-requires
store-requires c = let s = c.self.inside in let a = c.args.self in (at_start_stored s.at s.chain (a.passed ++ a.left) c.self.invariant (c.self.view_is ∙ c.rewind.ensures)).0

pub returns-clause-entries : goal.returns-clause-entries
returns-clause-entries c =
    let s = c.self.inside in let a = c.args.self in
    ap joined c.store.ensures.items ∙ (at_start_stored s.at s.chain (a.passed ++ a.left) c.self.invariant (c.self.view_is ∙ c.rewind.ensures)).1
