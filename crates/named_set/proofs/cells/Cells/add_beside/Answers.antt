use Rattle.std.proofs.Common.{◌∷◌, ◌++◌, Option, Some, List, map, subst}
use Rattle.std.specs.List.Sorted.{IsPermutation}
use Rattle.counted_cell.specs.Cell.{Cell}
use Rattle.named_set.specs.Places.{cells_in}
use Rattle.named_set.proofs.Finding.{add_second}
use Rattle.named_set.proofs.Standing.{added_both}
use Rattle.named_set.proofs.cells.Cells.add_beside.Goals as goal

pub returns-clause-added : goal.returns-clause-added
returns-clause-added c =
    let first = c.self.inside.slots in
    let items = c.self.inside.beside.items in
    let more = c.push.new.self.items in
    let x = c.args.owner in
    let added : IsPermutation (x ∷ (cells_in first ++ items)) (cells_in first ++ more) = rw (c.in_default.ensures.items) (add_second (cells_in first) items x) in
    subst (λ (s : List (Option Cell)). IsPermutation (x ∷ cells_in s) (cells_in (first ++ map (λ d. Some d) more))) c.self.view_is (added_both first first items more x added)
