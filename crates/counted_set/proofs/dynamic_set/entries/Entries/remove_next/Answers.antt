use Rattle.std.proofs.Common.{◌≡◌, ◌+◌, ◌∷◌, ◌++◌, sym, subst, ap, ◌∙◌, length, take, drop}
use Rattle.node_chain.proofs.Packs.{Unlinked, out_inside, out_last, out_lone, taken_view}
use Rattle.node_chain.specs.Walked.{taken_out}
use Rattle.counted_set.proofs.dynamic_set.entries.Entries.remove_next.Goals as goal
use Rattle.counted_set.proofs.dynamic_set.entries.Entries.remove_next.Goals.{then-self-count, else-self-count}

pub returns-then-count-eq1 : goal.returns-then-count-eq1
returns-then-count-eq1 c =
    let s = c.self.inside in let m = c.unlink-node.new.self in let p = c.unlink-node.result.value.item in
    let is : Unlinked s.chain m p = (c.unlink-node.ensures.taken, c.unlink-node.ensures.passed) in
    let count : c.len-count.result ≡ length p = c.len-count.ensures.value ∙ ap (λ n. length n.item) c.deref.ensures in
    taken_view s.at s.at s.chain m (out_lone s.at s.chain m p c.self.invariant is (sym count ∙ c.if-count-eq1.true)) ∙ ap (λ w. taken_out w w.left) c.self.view_is

pub returns-after-self-count : goal.returns-after-self-count
returns-after-self-count c =
    let s = c.self.inside in let m = c.unlink-node.new.self in let p = c.unlink-node.result.value.item in let v = c.self.invariant in
    let is : Unlinked s.chain m p = (c.unlink-node.ensures.taken, c.unlink-node.ensures.passed) in
    let count : c.len-count.result ≡ length p = c.len-count.ensures.value ∙ ap (λ n. length n.item) c.deref.ensures in
    let q = c.remove-entry.new.self in let e = c.remove-entry.result in let same = ap (λ n. n.item) c.deref_mut.ensures.value in
    let taken : drop s.at p ≡ e ∷ drop (s.at + 1) p = subst (λ l. drop s.at l ≡ e ∷ drop (s.at + 1) l) same c.remove-entry.ensures.taken in
    let rest : q ≡ take s.at p ++ drop (s.at + 1) p = subst (λ l. q ≡ take s.at l ++ drop (s.at + 1) l) same c.remove-entry.ensures.rest in
    let shown = ap (λ w. taken_out w w.left) c.self.view_is in
    elim c.if-self-count.branch [
      | then-self-count w ↦ w.self-is ∙ taken_view s.at 0 s.chain w.keep.new.self (out_last s.at s.chain m c.link.new.self w.keep.new.self p q e v is taken rest c.link.ensures w.keep.ensures (w.if-self-count.true ∙ count) (λ z. c.if-count-eq1.false (count ∙ z))) ∙ shown
      | else-self-count w ↦ w.self-is ∙ taken_view s.at s.at s.chain c.link.new.self (out_inside s.at s.chain m c.link.new.self p q e v is taken rest c.link.ensures (λ z. w.if-self-count.false (z ∙ sym count))) ∙ shown
    ]
