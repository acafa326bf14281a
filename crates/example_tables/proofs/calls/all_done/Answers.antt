use Rattle.std.proofs.Common.{rules}
use Rattle.example_tables.proofs.calls.all_done.Goals as goal

-- the replies are those that the table gave
pub returns-clause-done : goal.returns-clause-done
returns-clause-done g c = (c.in_ok-replies.replies.items, c.in_ok-replies.ensures.replays, search rules)
