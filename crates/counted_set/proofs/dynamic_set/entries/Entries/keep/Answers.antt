use Rattle.std.proofs.Common.{◌+◌, ap, ◌∙◌, arith}
use Rattle.node_chain.proofs.Packs.{packed_on, kept_view, leaves, stays}
use Rattle.node_chain.specs.Walked.{passed_by}
use Rattle.counted_set.proofs.dynamic_set.entries.Entries.keep.Goals as goal

pub invariant_of-self-else-self-count : goal.invariant_of-self-else-self-count
invariant_of-self-else-self-count c =
    let s = c.self.inside in let count = c.len-count.ensures.value in let last = c.if-self-count.false in
    packed_on s.at 0 s.chain c.keep.new.self (leaves s.at s.chain c.keep.new.self c.in-Some.pack.now c.in-Some.ensures.0 c.self.invariant c.in-Some.ensures.1 (omega (arith, count, last)) c.keep.ensures)

pub returns-then-self-count : goal.returns-then-self-count
returns-then-self-count c =
    let s = c.self.inside in let count = c.len-count.ensures.value in let more = c.if-self-count.true in
    kept_view s.at (s.at + 1) s.chain s.chain (stays s.at s.chain c.in-Some.pack.now c.in-Some.ensures.0 c.self.invariant c.in-Some.ensures.1 (omega (arith, count, more))) ∙ ap (λ w. passed_by w w.left) c.self.view_is

pub returns-else-self-count : goal.returns-else-self-count
returns-else-self-count c =
    let s = c.self.inside in let count = c.len-count.ensures.value in let last = c.if-self-count.false in
    kept_view s.at 0 s.chain c.keep.new.self (leaves s.at s.chain c.keep.new.self c.in-Some.pack.now c.in-Some.ensures.0 c.self.invariant c.in-Some.ensures.1 (omega (arith, count, last)) c.keep.ensures) ∙ ap (λ w. passed_by w w.left) c.self.view_is
