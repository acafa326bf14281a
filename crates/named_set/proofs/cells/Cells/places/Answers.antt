use Rattle.std.proofs.Common.{arith}
use Rattle.named_set.proofs.cells.Cells.places.Goals as goal

pub overflow_add-result : goal.overflow_add-result
overflow_add-result c =
    let beside = c.self.inside.beside in
    omega (arith, c.places.ensures.few, beside.ok.0, beside.ok.1, beside.small)
