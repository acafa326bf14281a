use Rattle.std.proofs.Common.{◌≡◌, ◌∷◌, [], ap, subst, sym, ◌∙◌}
use Rattle.node_chain.proofs.Packs.{grown_view, none_passed, put_packed, put_view}
use Rattle.node_chain.specs.Packs.{ArePacked, items_at}
use Rattle.node_chain.specs.Walked.{Walked, at_start}
use Rattle.counted_set.specs.Chain.{Linked}
use Rattle.counted_set.specs.declared.dynamic_set.entries.Entries.TheInside.{Inside}
use Rattle.counted_set.proofs.dynamic_set.entries.Entries.add_head.Goals as goal
use Rattle.counted_set.proofs.dynamic_set.entries.Entries.add_head.Goals.{in-Some, in-None, then-has_room, else-has_room+in_default}

-- a look leaves the entries as they were
pub add_head-requires : goal.add_head-requires
add_head-requires c =
    let s = c.self.inside in
    let same : c.match-look.self-inside ≡ s = elim c.match-look.branch [ in-Some w ↦ w.self-inside-is | in-None w ↦ w.self-inside-is ] in
    ap (λ (k : Inside). k.chain.passed) same ∙ (none_passed s.at s.chain c.self.invariant (ap (λ (w : Walked Linked). w.passed) c.self.view_is ∙ c.requires)).0

pub invariant_of-self-in_default : goal.invariant_of-self-in_default
invariant_of-self-in_default c =
    let s = c.self.inside in let k = c.match-look.self-inside in
    let same : k ≡ s = elim c.match-look.branch [ in-Some w ↦ w.self-inside-is | in-None w ↦ w.self-inside-is ] in
    let none = subst (λ (i : Inside). (items_at i.at i.chain).passed ≡ []) (sym same) (ap (λ (w : Walked Linked). w.passed) c.self.view_is ∙ c.requires) in
    put_packed k.at k.chain c.add_head.new.self c.new.result c.args.entry (subst (λ (i : Inside). ArePacked i.at i.chain) (sym same) c.self.invariant) none c.new.ensures c.in_default.ensures.added

pub returns-clause-added : goal.returns-clause-added
returns-clause-added c =
    let s = c.self.inside in let k = c.match-look.self-inside in let e = c.args.entry in
    let same : k ≡ s = elim c.match-look.branch [ in-Some w ↦ w.self-inside-is | in-None w ↦ w.self-inside-is ] in
    let packed = subst (λ (i : Inside). ArePacked i.at i.chain) (sym same) c.self.invariant in
    let none = subst (λ (i : Inside). (items_at i.at i.chain).passed ≡ []) (sym same) (ap (λ (w : Walked Linked). w.passed) c.self.view_is ∙ c.requires) in
    let shown = ap (λ (i : Inside). at_start (e ∷ (items_at i.at i.chain).left)) same ∙ ap (λ (w : Walked Linked). at_start (e ∷ w.left)) c.self.view_is in
    elim c.if-has_room.branch [
      | then-has_room w ↦ (
          let m = w.unlink-node.new.self in let p = w.unlink-node.result.value.item in let q = w.add.new.self in let at_item = ap (λ n. n.item) w.deref_mut.ensures.value in
          w.self-is ∙ grown_view k.at k.chain m w.link.new.self p q e packed none (w.unlink-node.ensures.taken, w.unlink-node.ensures.passed) (subst (λ l. q ≡ e ∷ l) at_item w.add.ensures) w.link.ensures ∙ shown)
      | else-has_room+in_default w ↦ w.self-is ∙ put_view k.at k.chain w.add_head.new.self w.new.result e packed none w.new.ensures w.in_default.ensures.added ∙ shown
    ]
