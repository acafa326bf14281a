use Rattle.counted_cell.specs.Text.{limit_in, somes}
use Rattle.counted_cell.proofs.owner.Owner.new.Given as goal

abbrev pub ghost-begin : goal.ghost-begin
ghost-begin g a = let text = a.whole.value.value.text in (limit_in text.sized (somes text.places.slots), g.G.Grant.grows)
