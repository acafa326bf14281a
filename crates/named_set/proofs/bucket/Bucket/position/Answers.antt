use Rattle.std.proofs.Common.{length}
use Rattle.named_set.specs.Places.{cells_in}
use Rattle.named_set.proofs.Keeping.{have_hash}
use Rattle.named_set.proofs.bucket.Bucket.position.Goals as goal

pub position-requires : goal.position-requires
position-requires g c =
    have_hash g.Static.StaticTables.tables g.G.Grant.may (length g.N.SetName.logs) c.self.inside.number (cells_in c.self.inside.owners) c.args.text.now c.args.hash c.self.invariant.4 c.requires
