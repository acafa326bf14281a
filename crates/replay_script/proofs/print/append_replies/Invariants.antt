use Rattle.std.proofs.Common.{◌≡◌, ◌++◌, take, string_bytes}
use Rattle.std.specs.List.{flat_map}
use Rattle.replay_script.specs.Replay.{reply_line}
use Rattle.replay_script.proofs.print.append_replies.Given as goal

abbrev pub invariant-loop-reply : goal.invariant-loop-reply
invariant-loop-reply l = string_bytes l.out ≡ string_bytes l.initial.out ++ flat_map reply_line (take l.reply-index l.replies)
