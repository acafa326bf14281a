use Rattle.std.proofs.Common.{◌≡◌, ◌+◌, ◌++◌, drop, string_bytes}
use Rattle.replay_script.specs.Replay.{held_lines_from}
use Rattle.replay_script.proofs.print.append_holders.Given as goal

abbrev pub invariant-loop-passed : goal.invariant-loop-passed
invariant-loop-passed l = string_bytes l.out ++ held_lines_from (l.passed + 1) (drop l.passed l.world.entries) ≡ string_bytes l.initial.out ++ held_lines_from 1 l.world.entries
