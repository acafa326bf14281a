use Rattle.std.proofs.Common.{◌∙◌, ap, sym, subst, arith, ◌-◌, ℕ, None}
use Rattle.std.specs.Prelude.{slice_get}
use Rattle.std.specs.List.{swap_remove}
use Rattle.text_forms.specs.Map.{with_held}
use Rattle.interner_table.specs.Kept.{Kept, pairs_of, tickets_of, map_of, IsKeptTable}
use Rattle.interner_table.proofs.kept.Pairs.{map-is}
use Rattle.interner_table.proofs.kept.Taking.{bytes-there, kept-taken, order-left, taken-map}
use Rattle.interner_table.proofs.table.Table.take_out.Goals as goal

pub overflow_sub-self : goal.overflow_sub-self
overflow_sub-self g c =
    let there =
    bytes-there g.S.StaticTables.tables c.self.inside.lasts.items c.self.inside.entries c.swap_remove_index.new.self c.self.inside.tickets.keys c.swap_remove_index-2.new.self.keys c.self.inside.bytes c.args.at
    c.in-Some-swap_remove_index.field-0 (c.in-Some.text, c.in-Some.field-0-1) (sym c.in-Some.ensures.entry) c.in-Some.ensures.entries c.in-Some.ensures.len c.in-Some-swap_remove_index.ensures.keys c.self.invariant in
    let size = c.len.ensures in
    let items = c.in-Some.text.bytes.ok.0 in
    omega (arith, there, size, items)

pub invariant_of-self : goal.invariant_of-self
invariant_of-self g c =
    subst (λ (n : ℕ). IsKeptTable g.S.StaticTables.tables c.self.inside.buckets c.self.inside.lasts.items (pairs_of c.swap_remove_index.new.self.entries) c.swap_remove_index-2.new.self.keys (c.self.inside.bytes - n)) (sym (c.len.ensures ∙ c.in-Some.text.bytes.ok.0)) (
    kept-taken g.S.StaticTables.tables c.self.inside.lasts.items c.self.inside.entries c.swap_remove_index.new.self c.self.inside.tickets.keys c.swap_remove_index-2.new.self.keys c.self.inside.bytes c.args.at
    c.in-Some-swap_remove_index.field-0 (c.in-Some.text, c.in-Some.field-0-1) (sym c.in-Some.ensures.entry) c.in-Some.ensures.entries c.in-Some.ensures.len c.in-Some-swap_remove_index.ensures.keys c.self.invariant)

pub returns-clause-map : goal.returns-clause-map
returns-clause-map g c = λ text had h.
    let there = ap (λ (kept : Kept). slice_get kept.pairs c.args.at) c.self.view_is ∙ h in
    map-is c.self.inside.lasts.items (pairs_of c.self.inside.entries.entries) (pairs_of c.swap_remove_index.new.self.entries) text None
    (taken-map c.self.inside.entries c.swap_remove_index.new.self c.args.at (c.in-Some.text, c.in-Some.field-0-1) (text, had) (sym c.in-Some.ensures.entry) there c.in-Some.ensures.updates)
    ∙ ap (λ (kept : Kept). with_held (map_of kept) text None) c.self.view_is

pub returns-clause-order : goal.returns-clause-order
returns-clause-order g c = λ ticket.
    order-left g.S.StaticTables.tables c.self.inside.lasts.items c.self.inside.entries c.swap_remove_index.new.self c.self.inside.tickets.keys c.swap_remove_index-2.new.self.keys c.self.inside.bytes c.args.at
    c.in-Some-swap_remove_index.field-0 (c.in-Some.text, c.in-Some.field-0-1) (sym c.in-Some.ensures.entry) c.in-Some.ensures.entries c.in-Some.ensures.len c.in-Some-swap_remove_index.ensures.keys c.self.invariant ticket
    ∙ ap (λ (kept : Kept). swap_remove (tickets_of kept.pairs) c.args.at ticket) c.self.view_is
