use Rattle.std.proofs.Common.{◌++◌}
use Rattle.std.proofs.lemmas.List.Sorted.{IsPermutation-trans}
use Rattle.named_set.specs.Places.{cells_in}
use Rattle.named_set.proofs.cells.index_each.Goals as goal

pub loop-at-preserved : goal.loop-at-preserved
loop-at-preserved c =
    let told = c.index_one.ensures in (
      told.before,
      IsPermutation-trans (cells_in c.args.slots.now ++ c.args.beside.now.items) (cells_in c.loop-at.slots ++ c.loop-at.beside.items) (cells_in c.index_one.new.slots ++ c.index_one.new.beside.items) c.loop-at.invariant.1 told.moved,
    )
