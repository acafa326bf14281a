use Rattle.std.proofs.Common.{◌≡◌, ◌∙◌, ◌∷◌, ◌+◌, ℕ, List, Option, length, map, ap, subst, sym, arith}
use Rattle.std.specs.List.Sorted.{IsPermutation}
use Rattle.counted_cell.specs.Cell.{Cell}
use Rattle.counted_cell.specs.declared.label.Label.{Label}
use Rattle.named_set.specs.Places.{cells_in, short_hash}
use Rattle.named_set.specs.Slots.{IsIndex, cell_at}
use Rattle.named_set.specs.declared.slots.Slot.{Slot}
use Rattle.named_set.proofs.Indexing.{put_more, written}
use Rattle.named_set.proofs.slots.Slots.put.Goals as goal

pub invariant_of-self : goal.invariant_of-self
invariant_of-self c =
    let inside = c.self.inside in
    let new = c.put_full.new.slots in
    let same : new ≡ inside.slots.items = c.in_err-was_empty.ensures.same ∙ c.as_mut_slice.ensures.value in
    let len = sym (ap length c.in_err-was_empty.ensures.same ∙ c.as_mut_slice.ensures.len) in
    subst (λ (slots : List Slot). IsIndex inside.key.multiplier slots × (inside.cells ≡ length (cells_in (map cell_at slots)))) (sym same ∙ written new inside.slots.items inside.slots.len len) c.self.invariant

pub overflow_add-self : goal.overflow_add-self
overflow_add-self c =
    let vec = c.self.inside.slots in
    let more = put_more vec.items c.as_mut_slice.result.now c.put_full.new.slots c.short_of-short.result c.args.owner c.as_mut_slice.ensures.value c.in_ok-was_empty.ensures.put in
    omega (arith, more.fits, c.self.invariant.1, vec.ok.0, vec.ok.1, vec.small)

pub invariant_of-self-2 : goal.invariant_of-self-2
invariant_of-self-2 c =
    let inside = c.self.inside in
    let new = c.put_full.new.slots in
    let more = put_more inside.slots.items c.as_mut_slice.result.now new c.short_of-short.result c.args.owner c.as_mut_slice.ensures.value c.in_ok-was_empty.ensures.put in
    let hash = c.short_of-short.ensures ∙ ap (λ (h : ℕ). short_hash inside.key.multiplier h) c.hash.ensures in
    let len = sym (more.places ∙ sym (ap length c.as_mut_slice.ensures.value) ∙ c.as_mut_slice.ensures.len) in
    subst (λ (slots : List Slot). IsIndex inside.key.multiplier slots × (inside.cells + 1 ≡ length (cells_in (map cell_at slots)))) (written new inside.slots.items inside.slots.len len)
    (more.index inside.key.multiplier c.self.invariant.0 hash, omega (arith, more.count, c.self.invariant.1))

pub returns-clause-added : goal.returns-clause-added
returns-clause-added c =
    let slots = c.self.inside.slots in
    let new = c.put_full.new.slots in
    let owner = c.args.owner in
    let more = put_more slots.items c.as_mut_slice.result.now new c.short_of-short.result owner c.as_mut_slice.ensures.value c.in_ok-was_empty.ensures.put in
    let len = sym (more.places ∙ sym (ap length c.as_mut_slice.ensures.value) ∙ c.as_mut_slice.ensures.len) in
    subst (λ (v : List (Option Cell)). IsPermutation (owner ∷ cells_in c.args.self.now) (cells_in v)) (ap (map cell_at) (written new slots.items slots.len len))
    (subst (λ (v : List (Option Cell)). IsPermutation (owner ∷ cells_in v) (cells_in (map cell_at new))) c.self.view_is more.cells)
