use Rattle.std.proofs.Common.{ap, refl}
use Rattle.named_set.proofs.Agreeing.{ticket_seen}
use Rattle.named_set.proofs.held.Held.new.Goals as goal

-- the word is the ticket of the cell
pub invariant_of-result-2 : goal.invariant_of-result-2
invariant_of-result-2 g c =
    let cell = c.args.share.cell in
    (c.ticket.ensures, ticket_seen g.Static.StaticTables.tables g.N.SetName.logs c.args.seen cell cell.text cell.label.ticket c.requires.seen refl refl, c.requires.grows)
