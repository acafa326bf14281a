use Rattle.std.proofs.Common.{subst, sym, length}
use Rattle.counted_cell.specs.Cell.{Cell}
use Rattle.named_set.specs.Logged.{IsOf, Kept}
use Rattle.named_set.specs.Places.{HasCell, cells_in}
use Rattle.named_set.proofs.Rows.{each_at}
use Rattle.named_set.proofs.Standing.{cell_stands}
use Rattle.named_set.proofs.bucket.Bucket.owner_at.Goals as goal

pub unreachable-requires : goal.unreachable-requires
unreachable-requires g c =
    let there : (d : Cell) × HasCell c.self.inside.owners c.args.at d = subst (λ (s : Kept). (d : Cell) × HasCell s.places c.args.at d) (sym c.self.view_is) c.requires in
    let none = c.at.ensures.none c.in-None.is in
    cc (there.1, none)

pub returns-clause-may : goal.returns-clause-may
returns-clause-may g c =
    let places = c.self.inside.owners in
    let x = c.in-Some.owner.now in
    let there = cell_stands places c.args.at x c.in-Some.ensures.cell in
    (each_at (IsOf g.Static.StaticTables.tables g.G.Grant.may (length g.N.SetName.logs) c.self.inside.number) (cells_in places) there.0 x c.self.invariant.4 there.1).granted
