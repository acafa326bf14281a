use Rattle.std.proofs.Common.{◌≡◌, ◌∙◌, ◌∷◌, ◌+◌, ap, sym, subst, length, arith}
use Rattle.std.proofs.lemmas.List.Sorted.{length_permutation}
use Rattle.counted_cell.specs.Cell.{Cell}
use Rattle.named_set.specs.Logged.{Kept, IsOf, LinksNoMore}
use Rattle.named_set.specs.Places.{HasCell, cells_in}
use Rattle.named_set.proofs.Keeping.{each_permuted, kept_permuted, kept_without, links_less}
use Rattle.named_set.proofs.bucket.Bucket.take_out.Goals as goal

pub invariant_of-self : goal.invariant_of-self
invariant_of-self g c =
    let inv = c.self.invariant in
    let inside = c.self.inside in
    let linked = cells_in inside.owners in
    let rest = cells_in c.take_out.new.self in
    let x = c.take_out.result in
    let told = c.bury.ensures in
    let others = c.take_out.ensures.others in
    let here : (d : Cell) × HasCell inside.owners c.args.at d × (c.args.none ≡ d.name) = subst (λ (s : Kept). (d : Cell) × HasCell s.places c.args.at d × (c.args.none ≡ d.name)) (sym c.self.view_is) c.requires in
    let same : here.0 ≡ x = cc (here.1, c.take_out.ensures.cell) in
    let name : c.args.none ≡ x.name = here.2 ∙ ap (λ (d : Cell). d.name) same in
    let kept = kept_without inside.number rest inside.log.entries inside.log.gone x (kept_permuted inside.number linked (x ∷ rest) inside.log.entries inside.log.gone others inv.3) in (
      told.0 ∙ inv.0,
      inv.1 ∙ ap length (sym told.1),
      inv.2,
      rw (told.1, told.2, name) kept,
      (each_permuted (IsOf g.Static.StaticTables.tables g.G.Grant.may (length g.N.SetName.logs) inside.number) linked (x ∷ rest) others inv.4).1,
    )

pub returns-clause-one : goal.returns-clause-one
returns-clause-one g c =
    let rest = cells_in c.take_out.new.self in
    let linked = cells_in c.self.inside.owners in
    let count : length rest + 1 ≡ length linked = omega (arith, length_permutation linked (c.take_out.result ∷ rest) c.take_out.ensures.others) in
    subst (λ (s : Kept). length rest + 1 ≡ length (cells_in s.places)) c.self.view_is count

pub returns-clause-less : goal.returns-clause-less
returns-clause-less g c =
    let rest = cells_in c.take_out.new.self in
    subst (λ (s : Kept). LinksNoMore (cells_in s.places) rest) c.self.view_is (links_less (cells_in c.self.inside.owners) rest c.take_out.result c.take_out.ensures.others)
