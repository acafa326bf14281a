use Rattle.std.proofs.Common.{List, subst, sym, arith}
use Rattle.std.proofs.lemmas.Option.{slice_get_within}
use Rattle.counted_cell.specs.Cell.{Cell}
use Rattle.named_set.specs.Places.{IsNew}
use Rattle.named_set.proofs.Standing.{cells_some}
use Rattle.named_set.proofs.cells.position_of.Goals as goal

pub returns : goal.returns
returns c =
    let owners = c.args.owners.now in
    let none : IsNew c.args.text.now owners = λ i d at same. c.loop-at.invariant.1 i d (omega (arith, slice_get_within owners i d at, c.loop-at-test.false)) at same in
    subst (λ (cs : List Cell). IsNew c.args.text.now cs) (sym (cells_some owners)) none
