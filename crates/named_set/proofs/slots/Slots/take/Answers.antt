use Rattle.std.proofs.Common.{◌≡◌, ◌∙◌, inl, inr, List, subst, sym, arith}
use Rattle.std.proofs.lemmas.Option.{slice_get_within}
use Rattle.counted_cell.specs.Cell.{Cell}
use Rattle.named_set.specs.Places.{HasCell}
use Rattle.named_set.specs.Slots.{EndsAbove, IsFree}
use Rattle.named_set.specs.declared.slots.Slot.{Slot}
use Rattle.named_set.specs.declared.slots.Slot.TheVariants.{Full}
use Rattle.named_set.proofs.Indexing.{IsLeft, cell_counts, cell_stands, reads_full, take_cells, take_keeps}
use Rattle.named_set.proofs.slots.Slots.take.Goals as goal
use Rattle.named_set.proofs.slots.Slots.take.Goals.{then-is_passed, else-is_passed}

pub overflow_sub-self : goal.overflow_sub-self
overflow_sub-self c =
    let slots = c.self.inside.slots.items in
    let there = cell_stands slots c.args.self.now c.args.at c.requires.0 c.self.view_is c.requires.1 in
    omega (arith, c.self.invariant.1, cell_counts slots c.args.at there.0 c.requires.0 there.1)

pub index_mut-requires : goal.index_mut-requires
index_mut-requires c =
    let vec = c.self.inside.slots in
    let there = cell_stands vec.items c.args.self.now c.args.at c.requires.0 c.self.view_is c.requires.1 in
    omega (arith, vec.ok.0, slice_get_within vec.items c.args.at (Full there.0 c.requires.0) there.1)

pub unreachable-requires : goal.unreachable-requires
unreachable-requires c =
    let slots = c.self.inside.slots.items in
    let there = cell_stands slots c.args.self.now c.args.at c.requires.0 c.self.view_is c.requires.1 in
    c.in_default.not-Full there.0 c.requires.0 (c.replace.ensures.value ∙ reads_full slots c.args.at there.0 c.requires.0 c.index_mut.result.now there.1 c.index_mut.ensures.value)

pub invariant_of-self : goal.invariant_of-self
invariant_of-self c =
    let inside = c.self.inside in
    let slots = inside.slots.items in
    let there = cell_stands slots c.args.self.now c.args.at c.requires.0 c.self.view_is c.requires.1 in
    let left : IsLeft slots c.args.at c.replace.new.dest =
    elim c.if-is_passed.branch as (λ w. IsLeft slots c.args.at c.replace.new.dest) [
      | then-is_passed w ↦ inl (c.replace.ensures.after ∙ w.left-is)
      | else-is_passed w ↦ inr (c.replace.ensures.after ∙ w.left-is, subst (λ (row : List Slot). EndsAbove row c.args.at) c.as_slice.ensures.value (c.is_passed-is_passed.ensures w.if-is_passed.false))
    ] in
    take_keeps inside.key.multiplier slots c.args.at there.0 inside.cells c.replace.new.dest c.requires.0 c.self.invariant.0 c.self.invariant.1 there.1 left

pub returns-clause-cell : goal.returns-clause-cell
returns-clause-cell c =
    let slots = c.self.inside.slots.items in
    let there = cell_stands slots c.args.self.now c.args.at c.requires.0 c.self.view_is c.requires.1 in
    let is = reads_full slots c.args.at there.0 c.requires.0 c.index_mut.result.now there.1 c.index_mut.ensures.value in
    let same : c.requires.0 ≡ c.in-Full.owner = cc (is, c.in-Full.is, c.replace.ensures.value) in
    subst (λ (d : Cell). HasCell c.args.self.now c.args.at d) same c.requires.1

pub returns-clause-others : goal.returns-clause-others
returns-clause-others c =
    let slots = c.self.inside.slots.items in
    let left = c.replace.new.dest in
    let there = cell_stands slots c.args.self.now c.args.at c.requires.0 c.self.view_is c.requires.1 in
    let is = reads_full slots c.args.at there.0 c.requires.0 c.index_mut.result.now there.1 c.index_mut.ensures.value in
    let same : c.requires.0 ≡ c.in-Full.owner = cc (is, c.in-Full.is, c.replace.ensures.value) in
    let free : IsFree left =
    elim c.if-is_passed.branch as (λ w. IsFree left) [
      | then-is_passed w ↦ subst IsFree (sym (c.replace.ensures.after ∙ w.left-is)) tt
      | else-is_passed w ↦ subst IsFree (sym (c.replace.ensures.after ∙ w.left-is)) tt
    ] in
    rw (← c.self.view_is, ← same) (take_cells slots c.args.at there.0 left c.requires.0 there.1 free)
