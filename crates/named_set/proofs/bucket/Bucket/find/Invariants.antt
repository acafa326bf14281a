use Rattle.std.proofs.Common.{◌≡◌, length}
use Rattle.text_forms.specs.Tables.{bucket_of}
use Rattle.named_set.specs.Places.{cells_in}
use Rattle.named_set.proofs.bucket.Bucket.find.Given as goal

abbrev pub invariant-loop-at : goal.invariant-loop-at
invariant-loop-at g l = (l.self.number ≡ l.fn.self.number) × (bucket_of g.Static.StaticTables.tables (length g.N.SetName.logs) l.text ≡ l.self.number)

abbrev pub decreases-loop-at : goal.decreases-loop-at
decreases-loop-at g l = length (cells_in l.self.places)
