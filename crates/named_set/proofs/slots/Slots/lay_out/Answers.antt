use Rattle.std.proofs.Common.{◌≡◌, ◌∙◌, ◌++◌, Global, List, Option, length, map, ap, subst, sym, arith, Vec}
use Rattle.std.specs.List.Sorted.{IsPermutation}
use Rattle.counted_cell.specs.Cell.{Cell}
use Rattle.named_set.specs.Places.{cells_in}
use Rattle.named_set.specs.Slots.{HaveShorts, IsIndex, cell_at}
use Rattle.named_set.specs.declared.slots.Slot.{Slot}
use Rattle.named_set.proofs.Indexing.{written}
use Rattle.named_set.proofs.Standing.{empty_index}
use Rattle.named_set.proofs.slots.Slots.lay_out.Goals as goal

pub invariant_of-self : goal.invariant_of-self
invariant_of-self c =
    let m = c.self.inside.key.multiplier in
    let told = c.move_all-moved.ensures in
    let new = c.move_all-moved.new.slots in
    let first = c.as_mut_slice.result.now in
    let slots = c.replace-before.new.dest in
    let empty = empty_index m c.args.places first (cc (c.as_mut_slice.ensures.value, c.replace-before.ensures.after, c.in_ok-slots.ensures)) in
    let before : c.replace-before.result.items ≡ c.self.inside.slots.items = cc (c.replace-before.ensures.value) in
    let have : HaveShorts m c.replace-before.result.items = subst (HaveShorts m) (sym before) (λ at short d there. (c.self.invariant.0 at short d there).hash) in
    let len = sym (told.places ∙ c.as_mut_slice.ensures.len) in
    subst (λ (row : List Slot). IsIndex m row × (c.move_all-moved.result ≡ length (cells_in (map cell_at row)))) (written new slots.items slots.len len)
    (told.index m empty.0 have, omega (arith, told.count, ap length empty.1))

pub returns-clause-cells : goal.returns-clause-cells
returns-clause-cells c =
    let told = c.move_all-moved.ensures in
    let new = c.move_all-moved.new.slots in
    let first = c.as_mut_slice.result.now in
    let slots = c.replace-before.new.dest in
    let spare = c.reserve.new.self.items in
    let after = c.move_all-moved.new.spare.items in
    let empty = empty_index c.self.inside.key.multiplier c.args.places first (cc (c.as_mut_slice.ensures.value, c.replace-before.ensures.after, c.in_ok-slots.ensures)) in
    let before : map cell_at c.replace-before.result.items ≡ c.args.self.now = ap (λ (v : Vec Slot Global). map cell_at v.items) c.replace-before.ensures.value ∙ c.self.view_is in
    let len = sym (told.places ∙ c.as_mut_slice.ensures.len) in
    let moved : IsPermutation (cells_in c.args.self.now ++ spare) (cells_in (map cell_at new) ++ after) =
    subst (λ cs. IsPermutation (cells_in c.args.self.now ++ (cs ++ spare)) (cells_in (map cell_at new) ++ after)) empty.1
    (subst (λ (v : List (Option Cell)). IsPermutation (cells_in v ++ (cells_in (map cell_at first) ++ spare)) (cells_in (map cell_at new) ++ after)) before told.cells) in
    subst (λ (row : List Slot). IsPermutation (cells_in c.args.self.now ++ c.args.spare.now.items) (cells_in (map cell_at row) ++ after)) (written new slots.items slots.len len)
    (subst (λ (s : List Cell). IsPermutation (cells_in c.args.self.now ++ s) (cells_in (map cell_at new) ++ after)) c.reserve.ensures.items moved)
