use Rattle.std.proofs.Common.{◌∷◌, ◌++◌, Option, Some, List, map, subst}
use Rattle.std.specs.List.Sorted.{IsPermutation}
use Rattle.std.proofs.lemmas.List.Sorted.{IsPermutation-append_left}
use Rattle.counted_cell.specs.Cell.{Cell}
use Rattle.named_set.specs.Places.{cells_in}
use Rattle.named_set.proofs.Standing.{added_both}
use Rattle.named_set.proofs.cells.Cells.put.Goals as goal

pub returns-clause-added : goal.returns-clause-added
returns-clause-added c =
    let first = c.self.inside.slots in
    let more = c.put.new.self in
    let items = c.self.inside.beside.items in
    let x = c.args.owner in
    let added : IsPermutation (x ∷ (cells_in first ++ items)) (cells_in more ++ items) = IsPermutation-append_left items (x ∷ cells_in first) (cells_in more) c.in_default.ensures.added in
    subst (λ (s : List (Option Cell)). IsPermutation (x ∷ cells_in s) (cells_in (more ++ map (λ (d : Cell). Some d) items))) c.self.view_is (added_both first more items items x added)
