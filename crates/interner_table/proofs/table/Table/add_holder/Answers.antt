use Rattle.std.proofs.Common.{◌∙◌, ap, sym, arith, ℕ, ◌+◌, Some}
use Rattle.text_forms.specs.Map.{Holding, with_held}
use Rattle.interner_table.specs.Kept.{Kept, map_of}
use Rattle.interner_table.proofs.calls.Replies.{full, one_holder_more}
use Rattle.interner_table.proofs.table.Table.add_holder.Goals as goal

pub returns-then-holders-clause-adds : goal.returns-then-holders-clause-adds
returns-then-holders-clause-adds g c = λ text had h.
    let test = c.if-holders.true in
    let read = c.holders.ensures.value in
    let limit = ap (λ (kept : Kept). kept.limits.holders) c.self.view_is in
    let own = ap (λ (x : Holding). x.holders) (c.held_at-ticket.ensures.pair (text, had) h) in
    full c.args.self.now.limits (map_of c.args.self.now) text had (omega (arith, test, read, limit, own))

pub returns-clause-adds : goal.returns-clause-adds
returns-clause-adds g c = λ text had h.
    let test = c.if-holders.false in
    let read = c.holders.ensures.value in
    let limit = ap (λ (kept : Kept). kept.limits.holders) c.self.view_is in
    let is = c.held_at-ticket.ensures.pair (text, had) h in
    let own = ap (λ (x : Holding). x.holders) is in
    one_holder_more c.args.self.now.limits (map_of c.args.self.now) (map_of c.set_holders.new.self) text had c.held_at-ticket.result.0 (omega (arith, test, read, limit, own)) (sym (ap (λ (x : Holding). x.ticket) is))
    (c.set_holders.ensures.map text had h ∙ ap (λ (n : ℕ). let now : Holding = record { ticket = had.ticket; holders = n + 1 } in with_held (map_of c.args.self.now) text (Some now)) (sym own))
