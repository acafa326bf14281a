use Rattle.std.proofs.Common.{◌≡◌, ◌++◌, take}
use Rattle.atomic_steps.proofs.runs.Loop.{replies_of, world_after}
use Rattle.atomic_steps.proofs.steps.World.run.Given as goal

-- the steps so far were made
abbrev pub invariant-loop-s : goal.invariant-loop-s
invariant-loop-s g l = record {
  replied : l.out.items ≡ l.fn.out.items ++ replies_of g.S.StaticTables.tables l.fn.self (take l.s-index l.steps);
  reached : l.self ≡ world_after g.S.StaticTables.tables l.fn.self (take l.s-index l.steps);
}
