use Rattle.std.proofs.Common.{◌≡◌}
use Rattle.counted_cell.proofs.reply.ShareReply.one_more.Given as goal

abbrev pub invariant-loop : goal.invariant-loop
invariant-loop g l =
    (goal.iterator-loop g).can_next l.iterator' × (goal.iterator-loop g).is_finite l.iterator'
    × (l.reading.name ≡ l.cell.name) × (l.reading.count ≡ l.seen)
    × (l.left.name ≡ l.cell.name) × (l.left.number ≡ l.fn.permit.number)
