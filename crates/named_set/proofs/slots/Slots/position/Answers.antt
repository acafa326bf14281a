use Rattle.std.proofs.Common.{rules, ◌≡◌, ◌≢◌, ◌∙◌, ◌+◌, ◌-◌, List, Option, Some, slice_get, ap, sym, subst, arith}
use Rattle.counted_cell.specs.Cell.{Cell}
use Rattle.named_set.specs.Places.{HasCell, HaveHash, IsNew, cells_in}
use Rattle.named_set.specs.declared.slots.Slot.TheVariants.{Empty, Gone, Full}
use Rattle.named_set.proofs.Indexing.{none_more, none_found, none_yet, ends_zero, ends_empty, read, stands_full}
use Rattle.named_set.proofs.slots.Slots.position.Goals as goal
use Rattle.named_set.proofs.slots.Slots.position.Goals.{else-other-short-via-then-other-short+else-eq, else-other-short-via-else-other-short}

pub loop-below-init : goal.loop-below-init
loop-below-init c =
    none_yet c.self.inside.key.multiplier c.self.inside.slots.items c.len.result c.reach-below.result c.short_of-short.result c.args.text.now c.self.invariant.0 (search rules) c.reach-below.ensures.value

pub loop-below-preserved-in-Gone : goal.loop-below-preserved-in-Gone
loop-below-preserved-in-Gone c =
    let slots = c.self.inside.slots.items in
    let below = c.loop-below.below in
    let short = c.short_of-short.result in
    let before = c.loop-below.invariant in
    let next : (below - 1) + 1 ≡ below = omega (arith, c.loop-below-test.true) in
    let stands = read slots below (below - 1) short c.index.result.now Gone next before.0 c.index.ensures c.in-Gone.is in
    (omega (arith, before.0), none_more slots below (below - 1) short c.args.text.now next (λ d there same. cc (stands, there)) before.1)

pub loop-below-preserved : goal.loop-below-preserved
loop-below-preserved c =
    let slots = c.self.inside.slots.items in
    let below = c.loop-below.below in
    let short = c.short_of-short.result in
    let text = c.args.text.now in
    let before = c.loop-below.invariant in
    let next : (below - 1) + 1 ≡ below = omega (arith, c.loop-below-test.true) in
    let stands = read slots below (below - 1) short c.index.result.now (Full c.in-Full.other c.in-Full.owner) next before.0 c.index.ensures c.in-Full.is in
    let other : (d : Cell) → slice_get slots (below - 1) ≡ Some (Full short d) → d.text ≢ text =
    elim c.else-other-short.branch as (λ w. (d : Cell) → slice_get slots (below - 1) ≡ Some (Full short d) → d.text ≢ text) [
      | else-other-short-via-then-other-short+else-eq w ↦ λ d there same.
          let differs : w.text.result.now ≢ text = search rules in
          let is : c.in-Full.owner ≡ d = cc (stands, there) in
          differs (w.text.ensures ∙ (ap (λ (e : Cell). e.text) is ∙ same))
      | else-other-short-via-else-other-short w ↦ λ d there same. w.if-other-short.false (cc (stands, there))
    ] in
    (omega (arith, before.0), none_more slots below (below - 1) short text next other before.1)

pub returns-then-eq : goal.returns-then-eq
returns-then-eq c =
    let slots = c.self.inside.slots.items in
    let below = c.loop-below.below in
    let short = c.short_of-short.result in
    let owner = c.in-Full.owner in
    let before = c.loop-below.invariant in
    let next : (below - 1) + 1 ≡ below = omega (arith, c.loop-below-test.true) in
    let stands = read slots below (below - 1) short c.index.result.now (Full c.in-Full.other owner) next before.0 c.index.ensures c.in-Full.is in
    let same : c.text.result.now ≡ c.args.text.now = search rules in
    (owner, subst (λ (v : List (Option Cell)). HasCell v (below - 1) owner) c.self.view_is (stands_full slots (below - 1) c.in-Full.other owner stands), sym c.text.ensures ∙ same)

pub returns-in-Empty : goal.returns-in-Empty
returns-in-Empty c =
    let slots = c.self.inside.slots.items in
    let below = c.loop-below.below in
    let short = c.short_of-short.result in
    let text = c.args.text.now in
    let before = c.loop-below.invariant in
    let next : (below - 1) + 1 ≡ below = omega (arith, c.loop-below-test.true) in
    let stands = read slots below (below - 1) short c.index.result.now Empty next before.0 c.index.ensures c.in-Empty.is in
    let have = subst (λ (v : List (Option Cell)). HaveHash text c.args.hash (cells_in v)) (sym c.self.view_is) c.requires in
    let new = none_found c.self.inside.key.multiplier slots below short c.args.hash text c.self.invariant.0 have c.short_of-short.ensures before.1 (ends_empty slots below (below - 1) short next before.0 stands) in
    subst (λ (v : List (Option Cell)). IsNew text (cells_in v)) c.self.view_is new

pub returns : goal.returns
returns c =
    let slots = c.self.inside.slots.items in
    let below = c.loop-below.below in
    let short = c.short_of-short.result in
    let text = c.args.text.now in
    let have = subst (λ (v : List (Option Cell)). HaveHash text c.args.hash (cells_in v)) (sym c.self.view_is) c.requires in
    let new = none_found c.self.inside.key.multiplier slots below short c.args.hash text c.self.invariant.0 have c.short_of-short.ensures c.loop-below.invariant.1 (ends_zero slots below short c.loop-below-test.false) in
    subst (λ (v : List (Option Cell)). IsNew text (cells_in v)) c.self.view_is new
