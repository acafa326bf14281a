use Rattle.std.proofs.Common.{sym, subst, rules}
use Rattle.text_forms.specs.Map.{IsHeldTicket}
use Rattle.interner_table.specs.Kept.{Kept, map_of}
use Rattle.interner_table.specs.Places.{IsPlace}
use Rattle.interner_table.proofs.kept.Tickets.{not-placed, is-placed}
use Rattle.interner_table.proofs.table.Table.place_of.Goals as goal

pub returns-in_err-at : goal.returns-in_err-at
returns-in_err-at g c =
    let no_place : IsHeldTicket (map_of c.args.self.now) c.args.ticket → ⊥ =
    subst (λ (kept : Kept). IsHeldTicket (map_of kept) c.args.ticket → ⊥) c.self.view_is
    (λ held. not-placed _ _ _ c.self.inside.tickets.keys c.self.inside.bytes c.self.invariant c.args.ticket held.text held.holders held.held (sym c.in_err-at.ensures.found)) in
    search (rules, no_place)

pub returns : goal.returns
returns g c =
    subst (λ (kept : Kept). IsPlace kept c.args.ticket c.in_ok-at.at) c.self.view_is
    (is-placed g.S.StaticTables.tables c.self.inside.limits c.self.inside.lasts.items c.self.inside.entries.entries c.self.inside.tickets.keys c.self.inside.bytes c.self.invariant c.len.ensures.unique c.args.ticket c.in_ok-at.at c.in_ok-at.field-0-1.now c.in_ok-at.ensures.stored c.in_ok-at.ensures.key)
