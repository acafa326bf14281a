use Rattle.std.proofs.Common.{◌≤◌, length, map, arith}
use Rattle.std.proofs.lemmas.List.{length-map}
use Rattle.named_set.specs.Slots.{cell_at}
use Rattle.named_set.specs.Places.{cells_in}
use Rattle.named_set.proofs.Standing.{cells_few}
use Rattle.named_set.proofs.slots.Slots.len.Goals as goal

pub returns-clause-few : goal.returns-clause-few
returns-clause-few c =
    let slots = c.self.inside.slots in
    let few : length (cells_in (map cell_at slots.items)) ≤ length (map cell_at slots.items) = cells_few (map cell_at slots.items) in
    omega (arith, few, length-map slots.items cell_at, slots.ok.0, slots.ok.1, slots.small, c.self.invariant.1)
