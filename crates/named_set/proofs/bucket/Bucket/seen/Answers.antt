use Rattle.std.proofs.Common.{◌∙◌, subst, sym}
use Rattle.named_set.specs.Logged.{Kept}
use Rattle.named_set.specs.Places.{HasCell, cells_in}
use Rattle.named_set.proofs.Keeping.{seen_at}
use Rattle.named_set.proofs.Standing.{cell_stands}
use Rattle.named_set.proofs.bucket.Bucket.seen.Goals as goal

pub returns-clause-seen : goal.returns-clause-seen
returns-clause-seen g c at x here =
    let inside = c.self.inside in
    let there = cell_stands inside.owners at x (subst (λ (s : Kept). HasCell s.places at x) (sym c.self.view_is) here) in
    let told = c.seen.ensures in
    seen_at g.Static.StaticTables.tables g.G.Grant.may g.N.SetName.logs inside.number (cells_in inside.owners) inside.log.entries inside.log.gone c.seen.result there.0 x c.self.invariant.3 c.self.invariant.4 there.1
    (told.3 ∙ c.self.invariant.0) told.4 told.5
