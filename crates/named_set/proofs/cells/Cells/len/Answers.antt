use Rattle.std.proofs.Common.{◌≡◌, ◌∙◌, ◌+◌, ◌++◌, Option, Some, List, length, length-append, map, ap, subst, arith}
use Rattle.counted_cell.specs.Cell.{Cell}
use Rattle.named_set.specs.Places.{cells_in}
use Rattle.named_set.proofs.Standing.{cells_both}
use Rattle.named_set.proofs.cells.Cells.len.Goals as goal

pub overflow_add-result : goal.overflow_add-result
overflow_add-result c =
    let beside = c.self.inside.beside in
    omega (arith, c.len.ensures.few, beside.ok.0, beside.ok.1, beside.small)

pub returns : goal.returns
returns c =
    let first = c.self.inside.slots in
    let beside = c.self.inside.beside in
    let same : length (cells_in (first ++ map (λ d. Some d) beside.items)) ≡ length (cells_in first) + length beside.items = ap (λ (ds : List Cell). length ds) (cells_both first beside.items) ∙ length-append (cells_in first) beside.items in
    subst (λ (s : List (Option Cell)). c.len.result + c.len-2.result ≡ length (cells_in s)) c.self.view_is (omega (arith, same, c.len.ensures.value, c.len-2.ensures, beside.ok.0))
