use Rattle.std.proofs.Common.{ap, subst}
use Rattle.interner_table.specs.Kept.{map_of}
use Rattle.text_forms.specs.Map.{Holding}
use Rattle.interner_table.specs.Table.{HasWord}
use Rattle.interner_table.proofs.calls.IfHeld.{held-word}
use Rattle.interner_table.proofs.table.Table.get.Goals as goal

pub returns-in-Some-clause-word : goal.returns-in-Some-clause-word
returns-in-Some-clause-word g c =
    let found = c.in-Some.ensures.1 in
    let same = c.held_at-ticket.ensures.pair (c.args.text.now, c.in-Some.ensures.0) found.there in
    subst (HasWord g.S.StaticTables.tables (map_of c.args.self.now) c.args.text.now) (ap (λ (h : Holding). h.ticket) same)
    (held-word g.S.StaticTables.tables (map_of c.args.self.now) c.is_sound.ensures c.args.text.now c.in-Some.ensures.0 found.held)
