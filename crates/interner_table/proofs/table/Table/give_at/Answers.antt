use Rattle.std.proofs.Common.{◌∙◌, ap, sym, inr, ℕ, ◌-◌, Some}
use Rattle.text_forms.specs.Map.{Holding, with_held}
use Rattle.interner_table.specs.Kept.{map_of}
use Rattle.interner_table.proofs.kept.Pairs.{ticket-there}
use Rattle.interner_table.proofs.calls.Replies.{as_held, given-ticket, none_left, some_left}
use Rattle.interner_table.proofs.table.Table.give_at.Goals as goal

pub returns-then-holders-eq1-clause-gives : goal.returns-then-holders-eq1-clause-gives
returns-then-holders-eq1-clause-gives g c = λ ticket p.
    let m = map_of c.args.self.now in
    let had : Holding = record { ticket = ticket; holders = p.holders } in
    let n = ap (λ (x : Holding). x.holders) (c.held_at-holders.ensures.pair (p.text, had) p.found.there) in
    let test = c.if-holders-eq1.true in
    given-ticket g.S.StaticTables.tables c.args.self.now.limits m (map_of c.take_out.new.self) ticket (as_held m ticket p.text p.holders p.found.held)
    (c.take_out.ensures.map p.text had p.found.there ∙ ap (with_held m p.text) (sym (none_left had (n ∙ test))))

pub returns-else-holders-eq1-clause-gives : goal.returns-else-holders-eq1-clause-gives
returns-else-holders-eq1-clause-gives g c = λ ticket p.
    let m = map_of c.args.self.now in
    let had : Holding = record { ticket = ticket; holders = p.holders } in
    let n = ap (λ (x : Holding). x.holders) (c.held_at-holders.ensures.pair (p.text, had) p.found.there) in
    let test = c.if-holders-eq1.false in
    given-ticket g.S.StaticTables.tables c.args.self.now.limits m (map_of c.set_holders.new.self) ticket (as_held m ticket p.text p.holders p.found.held)
    (c.set_holders.ensures.map p.text had p.found.there
    ∙ ap (with_held m p.text) (ap (λ (k : ℕ). let left : Holding = record { ticket = ticket; holders = k - 1 } in Some left) (sym n) ∙ sym (some_left had p.some (λ e. test (sym n ∙ e)))))

pub returns-then-holders-eq1-clause-order : goal.returns-then-holders-eq1-clause-order
returns-then-holders-eq1-clause-order g c = λ ticket p.
    inr (c.args.at, ticket-there c.args.self.now.pairs c.args.at (p.text, record { ticket = ticket; holders = p.holders }) p.found.there, c.take_out.ensures.order ticket)
