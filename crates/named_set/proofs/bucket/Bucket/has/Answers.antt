use Rattle.std.proofs.Common.{◌≡◌, ◌≢◌, ◌∙◌, ap, sym, subst, length, slice_index_or}
use Rattle.std.specs.List.{AllByRecursion}
use mathlib.Core.List.{IsPrefix}
use Rattle.text_forms.specs.Tables.{bucket_of}
use Rattle.counted_cell.specs.Counting.{CellName}
use Rattle.named_set.specs.Logged.{Kept}
use Rattle.named_set.specs.Places.{IsNew, cells_in}
use Rattle.named_set.proofs.Keeping.{has_cell}
use Rattle.named_set.proofs.bucket.Bucket.has.Goals as goal

pub returns-clause-linked : goal.returns-clause-linked
returns-clause-linked g c none =
    let T = g.Static.StaticTables.tables in
    let logs = g.N.SetName.logs in
    let inside = c.self.inside in
    let cell = c.args.held.now.cell in
    let seen = c.args.seen.now in
    let told = c.seen-now.ensures in
    let here : bucket_of T (length logs) cell.text ≡ inside.number = subst (λ (s : Kept). bucket_of T (length logs) cell.text ≡ s.number) (sym c.self.view_is) c.requires.here in
    let one : seen.name ≡ inside.log.name = c.requires.seen.named ∙ (ap (λ k. slice_index_or logs k 0) here ∙ sym c.self.invariant.0) in
    let begins : IsPrefix seen.entries inside.log.entries = subst (IsPrefix seen.entries) told.1 (c.begins.ensures.1 (one ∙ sym told.0)) in
    let lives = subst (AllByRecursion (λ (t : CellName). t ≢ cell.name)) told.5 c.outlives.ensures in
    let new = subst (λ (s : Kept). IsNew cell.text (cells_in s.places)) (sym c.self.view_is) none in
    has_cell T logs inside.number (cells_in inside.owners) inside.log.entries inside.log.gone seen cell c.self.invariant.3 c.requires.seen begins lives new
