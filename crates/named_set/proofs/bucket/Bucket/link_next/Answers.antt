use Rattle.std.proofs.Common.{◌≡◌, ◌∙◌, ap, sym, subst, refl, arith, zero, ℕ, [], ◌∷◌, ◌++◌, ◌+◌, length, length-append, Some, slice_get}
use Rattle.std.specs.List.{Contains}
use Rattle.std.specs.List.Sorted.{IsPermutation}
use Rattle.std.proofs.lemmas.List.Sorted.{Contains-permutation}
use Rattle.text_forms.specs.Tables.{bucket_of, entry_hash}
use Rattle.text_forms.specs.Word.{IsTicket, ticket_of}
use Rattle.counted_cell.specs.Cell.{Cell}
use Rattle.counted_cell.specs.CellEntry.{entry_of}
use Rattle.named_set.specs.Logged.{IsOf, Kept}
use Rattle.named_set.specs.Places.{IsNew, cells_in}
use Rattle.named_set.proofs.Keeping.{each_permuted, kept_permuted, kept_with, stands}
use Rattle.named_set.proofs.Standing.{cell_place}
use Rattle.named_set.proofs.bucket.Bucket.link_next.Goals as goal

-- the cells as they were, in some order
pub invariant_of-self : goal.invariant_of-self
invariant_of-self g c =
    let inv = c.self.invariant in
    let inside = c.self.inside in
    let linked = cells_in inside.owners in
    let same = c.in-Err.ensures.same in (
      inv.0,
      inv.1,
      inv.2,
      kept_permuted inside.number linked (cells_in c.add.new.self) inside.log.entries inside.log.gone same inv.3,
      each_permuted (IsOf g.Static.StaticTables.tables g.G.Grant.may (length g.N.SetName.logs) inside.number) linked (cells_in c.add.new.self) same inv.4,
    )

pub invariant_of-self-2 : goal.invariant_of-self-2
invariant_of-self-2 g c =
    let T = g.Static.StaticTables.tables in
    let logs = g.N.SetName.logs in
    let inv = c.self.invariant in
    let inside = c.self.inside in
    let linked = cells_in inside.owners in
    let more = cells_in c.add.new.self in
    let entries = inside.log.entries in
    let gone = inside.log.gone in
    let cell = c.in_ok-owner.owner in
    let none : IsNew c.args.text.now linked = subst (λ (s : Kept). IsNew c.args.text.now (cells_in s.places)) (sym c.self.view_is) c.requires.new in
    let here : bucket_of T (length logs) c.args.text.now ≡ inside.number = subst (λ (s : Kept). bucket_of T (length logs) c.args.text.now ≡ s.number) (sym c.self.view_is) c.requires.here in
    let n = c.enter.ensures in
    let o = c.in_ok-owner.ensures in
    let below = c.if-self-serials.false in
    let range = c.serials.ensures.range in
    let given : IsTicket (length entries + 1) inside.number = (omega arith, omega (arith, inv.1, below, range.1), inv.2) in
    let ticket : cell.label.ticket ≡ ticket_of (length entries + 1) inside.number = o.ticket ∙ ap (λ (k : ℕ). ticket_of (k + 1) inside.number) inv.1 in
    let hash : cell.label.hash ≡ entry_hash T cell.text = o.hash ∙ (c.requires.hash ∙ ap (entry_hash T) (sym o.text)) in
    let kept = kept_with inside.number linked entries gone cell c.args.text.now inv.3 none o.text given ticket in
    let added : IsPermutation (cell ∷ linked) more = c.in_default.ensures.added in (
      n.0 ∙ inv.0,
      omega (arith, inv.1, ap length n.1, length-append entries (entry_of c.in_ok-owner.share.cell ∷ [])),
      inv.2,
      rw (n.1, n.2, o.share) (kept_permuted inside.number (cell ∷ linked) more (entries ++ entry_of cell ∷ []) gone added kept),
      each_permuted (IsOf T g.G.Grant.may (length logs) inside.number) (cell ∷ linked) more added (record { hash = hash; bucket = ap (bucket_of T (length logs)) o.text ∙ here; granted = o.may }, inv.4),
    )

pub returns-clause-seen : goal.returns-clause-seen
returns-clause-seen g c =
    let linked = cells_in c.self.inside.owners in
    let places = c.add.new.self in
    let more = cells_in places in
    let cell = c.in_ok-owner.owner in
    let first : Contains (cell ∷ linked) cell = (zero, omega arith, refl) in
    let at = stands more cell (Contains-permutation (cell ∷ linked) more cell c.in_default.ensures.added first) in
    let there : slice_get more at.0 ≡ Some c.in_ok-owner.share.cell = at.1 ∙ ap (λ (d : Cell). Some d) (sym c.in_ok-owner.ensures.share) in
    let place = cell_place places at.0 c.in_ok-owner.share.cell there in
    c.seen-seen.ensures.seen place.0 c.in_ok-owner.share.cell place.1
