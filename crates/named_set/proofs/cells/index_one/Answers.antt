use Rattle.std.proofs.Common.{◌≡◌, ◌∷◌, ◌++◌, Some, slice_get, length, refl}
use Rattle.std.specs.List.{swap_remove}
use Rattle.std.specs.List.Sorted.{IsPermutation}
use Rattle.std.proofs.lemmas.List.Sorted.{IsPermutation-trans, IsPermutation-append_left}
use Rattle.std.proofs.lemmas.Option.{slice_get_read}
use Rattle.named_set.specs.Places.{cells_in}
use Rattle.named_set.proofs.Finding.{moved_second, take_second}
use Rattle.named_set.proofs.cells.index_one.Goals as goal

pub returns-in-Err-clause-moved : goal.returns-in-Err-clause-moved
returns-in-Err-clause-moved c =
    let cells = cells_in c.args.slots.now in
    let items = c.args.beside.now.items in
    let x = c.swap_remove-owner.result in
    let at : slice_get items c.args.at ≡ Some x = slice_get_read items (length items) c.args.at x refl c.requires c.swap_remove-owner.ensures.value in
    rw (c.push_reserved.ensures.items, c.swap_remove-owner.ensures.items, c.in-Err.ensures.back, c.in-Err.ensures.same) (moved_second cells items c.args.at x at)

pub returns-in_default-clause-moved : goal.returns-in_default-clause-moved
returns-in_default-clause-moved c =
    let cells = cells_in c.args.slots.now in
    let more = cells_in c.put.new.self in
    let items = c.args.beside.now.items in
    let x = c.swap_remove-owner.result in
    let rest = swap_remove items c.args.at x in
    let at : slice_get items c.args.at ≡ Some x = slice_get_read items (length items) c.args.at x refl c.requires c.swap_remove-owner.ensures.value in
    let moved : IsPermutation (cells ++ items) (more ++ rest) =
    IsPermutation-trans (cells ++ items) (x ∷ (cells ++ rest)) (more ++ rest) (take_second cells items c.args.at x at) (IsPermutation-append_left rest (x ∷ cells) more c.in_default.ensures.added) in
    rw (c.swap_remove-owner.ensures.items) moved
