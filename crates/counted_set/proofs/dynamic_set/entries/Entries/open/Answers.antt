use Rattle.node_chain.proofs.Packs.{start_packed, start_view}
use Rattle.counted_set.proofs.dynamic_set.entries.Entries.open.Goals as goal

pub invariant_of-result : goal.invariant_of-result
invariant_of-result c = start_packed c.args.nodes c.open.result c.requires.1 c.open.ensures

pub returns : goal.returns
returns c = start_view c.args.nodes c.open.result c.open.ensures
