use Rattle.std.proofs.Common.{◌≡◌, ◌≤◌, length, take}
use Rattle.std.specs.Prelude.{vec_len, vec_capacity}
use Rattle.interner_table.specs.Kept.{map_of}
use Rattle.interner_table.specs.Calls.{AnswersAll}
use Rattle.interner_table.proofs.calls.Keep.{IsFresh}
use Rattle.interner_table.proofs.table.Table.run.Given as goal

abbrev pub invariant-loop-call : goal.invariant-loop-call
invariant-loop-call g l =
    (l.self.limits ≡ l.fn.self.limits)
    × (vec_len l.replies ≡ l.call-index) × (length l.calls ≤ vec_capacity l.replies)
    × AnswersAll g.S.StaticTables.tables l.fn.self.limits (map_of l.fn.self) (take l.call-index l.calls) l.replies.items (map_of l.self)
    × IsFresh (map_of l.fn.self) (map_of l.self)
