use Rattle.std.proofs.Common.{◌++◌, ap, ◌∙◌}
use Rattle.node_chain.proofs.Packs.{again_packed, again_view}
use Rattle.node_chain.specs.Walked.{at_start}
use Rattle.counted_set.proofs.dynamic_set.entries.Entries.rewind.Goals as goal

pub invariant_of-self : goal.invariant_of-self
invariant_of-self c = let s = c.self.inside in again_packed s.at s.chain c.rewind.new.self c.self.invariant c.rewind.ensures

pub returns : goal.returns
returns c = let s = c.self.inside in again_view s.at s.chain c.rewind.new.self c.rewind.ensures ∙ ap (λ w. at_start (w.passed ++ w.left)) c.self.view_is
