use Rattle.named_set.specs.Places.{cells_in}
use Rattle.named_set.proofs.Finding.{added_after, same_after}
use Rattle.named_set.proofs.cells.Cells.add.Goals as goal

pub returns-clause-added : goal.returns-clause-added
returns-clause-added c =
    added_after c.put.result c.args.owner (cells_in c.args.self.now) (cells_in c.make_room.new.self) (cells_in c.put.new.self) c.make_room.ensures c.put.ensures.added

pub returns-clause-same : goal.returns-clause-same
returns-clause-same c =
    same_after c.put.result (cells_in c.args.self.now) (cells_in c.make_room.new.self) (cells_in c.put.new.self) c.make_room.ensures c.put.ensures.same
