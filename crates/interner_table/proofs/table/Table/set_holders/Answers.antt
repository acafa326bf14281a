use Rattle.std.proofs.Common.{◌∙◌, ap, sym, subst, Some, length, ◌<◌}
use Rattle.std.specs.Prelude.{slice_get}
use Rattle.text_forms.specs.Map.{with_held}
use Rattle.interner_table.specs.Kept.{Kept, pairs_of, tickets_of, map_of}
use Rattle.interner_table.proofs.kept.Pairs.{written-kept, written-map, some-pair, map-is, holds_now}
use Rattle.interner_table.proofs.table.Table.set_holders.Goals as goal

pub invariant_of-self : goal.invariant_of-self
invariant_of-self g c =
    let within = subst (λ (kept : Kept). c.args.at < length kept.pairs) (sym c.self.view_is) c.requires.place in
    let pair = some-pair (pairs_of c.self.inside.entries.entries) c.args.at within in
    written-kept g.S.StaticTables.tables c.self.inside.lasts.items c.self.inside.entries c.write_holders.new.entries c.self.inside.tickets.keys c.self.inside.bytes c.args.at c.args.holders pair.0 pair.1
    c.write_holders.ensures.written c.requires.held c.self.invariant

pub returns-clause-map : goal.returns-clause-map
returns-clause-map g c = λ text had h.
    let there = ap (λ (kept : Kept). slice_get kept.pairs c.args.at) c.self.view_is ∙ h in
    map-is c.self.inside.lasts.items (pairs_of c.self.inside.entries.entries) (pairs_of c.write_holders.new.entries.entries) text (Some (holds_now had c.args.holders))
    (written-map g.S.StaticTables.tables c.self.inside.lasts.items c.self.inside.entries c.write_holders.new.entries c.self.inside.tickets.keys c.self.inside.bytes c.args.at c.args.holders _ there
    c.write_holders.ensures.written c.write_holders.ensures.unique)
    ∙ ap (λ (kept : Kept). with_held (map_of kept) text (Some (holds_now had c.args.holders))) c.self.view_is

pub returns-clause-order : goal.returns-clause-order
returns-clause-order g c = let now = invariant_of-self g c in sym now.index ∙ c.self.invariant.index ∙ ap (λ (kept : Kept). tickets_of kept.pairs) c.self.view_is
