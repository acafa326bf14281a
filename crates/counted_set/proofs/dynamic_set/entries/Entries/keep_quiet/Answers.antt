use Rattle.node_chain.proofs.Packs.{gone_on}
use Rattle.counted_set.proofs.Quiet.{left_alike, left_dying, met_in_node, node_is_quiet}
use Rattle.counted_set.proofs.dynamic_set.entries.Entries.keep_quiet.Goals as goal

pub invariant_of-self-in-Dying : goal.invariant_of-self-in-Dying
invariant_of-self-in-Dying g c =
    let s = c.self.inside in let m = c.in-Dying.ensures in let next = c.in_ok-node.ensures in
    (gone_on s.at c.in-Dying.place s.chain c.in_ok-node.node.now next.0 m.quiet m.left c.self.invariant next.1 m.split (left_dying g.C.Counts.gives g.C.Counts.shows_gone c.args.wanted _ c.in-Dying.gone _ _ m.left m.ends) m.at).2

pub invariant_of-self-in-Alike : goal.invariant_of-self-in-Alike
invariant_of-self-in-Alike g c =
    let s = c.self.inside in let m = c.in-Alike.ensures in let next = c.in_ok-node.ensures in
    (gone_on s.at c.in-Alike.place s.chain c.in_ok-node.node.now next.0 m.quiet m.left c.self.invariant next.1 m.split (left_alike g.C.Counts.gives g.C.Counts.shows_gone c.args.wanted _ _ _ m.left m.ends) m.at).2

pub returns-in-Nothing : goal.returns-in-Nothing
returns-in-Nothing g c =
    let s = c.self.inside in let next = c.in_ok-node.ensures in
    node_is_quiet g.C.Counts.gives g.C.Counts.shows_gone c.args.wanted s.at s.chain c.keep.new.self c.in_ok-node.node.now next.0 c.args.self.now _ _ c.self.invariant next.1 c.keep.ensures c.self.view_is c.in-Nothing.ensures

pub returns-in-Dying : goal.returns-in-Dying
returns-in-Dying g c =
    let s = c.self.inside in let m = c.in-Dying.ensures in let next = c.in_ok-node.ensures in
    met_in_node g.C.Counts.gives g.C.Counts.shows_gone c.args.wanted s.at c.in-Dying.place s.chain c.in_ok-node.node.now next.0 c.args.self.now _ _ _ c.self.invariant next.1 c.self.view_is m (left_dying g.C.Counts.gives g.C.Counts.shows_gone c.args.wanted _ c.in-Dying.gone _ _ m.left m.ends) m.at

pub returns-in-Alike : goal.returns-in-Alike
returns-in-Alike g c =
    let s = c.self.inside in let m = c.in-Alike.ensures in let next = c.in_ok-node.ensures in
    met_in_node g.C.Counts.gives g.C.Counts.shows_gone c.args.wanted s.at c.in-Alike.place s.chain c.in_ok-node.node.now next.0 c.args.self.now _ _ _ c.self.invariant next.1 c.self.view_is m (left_alike g.C.Counts.gives g.C.Counts.shows_gone c.args.wanted _ _ _ m.left m.ends) m.at
