use Rattle.std.proofs.Common.{◌++◌, Option, Some, List, map, subst}
use Rattle.std.specs.List.Sorted.{IsPermutation}
use Rattle.std.proofs.lemmas.List.Sorted.{IsPermutation-refl, IsPermutation-trans}
use Rattle.counted_cell.specs.Cell.{Cell}
use Rattle.named_set.specs.Places.{cells_in}
use Rattle.named_set.proofs.Standing.{moved_both}
use Rattle.named_set.proofs.cells.Cells.lay_out.Goals.{then-is_laid_out, else-is_laid_out}
use Rattle.named_set.proofs.cells.Cells.lay_out.Goals as goal

pub returns : goal.returns
returns c =
    let first = c.self.inside.slots in
    let items = c.self.inside.beside.items in
    let laid = c.lay_out.new in
    let inside = c.if-is_laid_out.self-inside in
    let rest = c.shrink_to_fit.new.self.items in
    let indexed : IsPermutation (cells_in laid.self ++ laid.spare.items) (cells_in inside.slots ++ inside.beside.items) = elim c.if-is_laid_out.branch [
      | then-is_laid_out w ↦ rw (w.self-inside-is) w.index_each.ensures
      | else-is_laid_out w ↦ rw (w.self-inside-is) (IsPermutation-refl (cells_in laid.self ++ laid.spare.items))
    ] in
    let both : IsPermutation (cells_in first ++ items) (cells_in inside.slots ++ inside.beside.items) =
    IsPermutation-trans (cells_in first ++ items) (cells_in laid.self ++ laid.spare.items) (cells_in inside.slots ++ inside.beside.items) c.lay_out.ensures.cells indexed in
    let moved : IsPermutation (cells_in first ++ items) (cells_in inside.slots ++ rest) = rw (c.shrink_to_fit.ensures.items) both in
    subst (λ (s : List (Option Cell)). IsPermutation (cells_in s) (cells_in (inside.slots ++ map (λ (d : Cell). Some d) rest))) c.self.view_is (moved_both first inside.slots items rest moved)
