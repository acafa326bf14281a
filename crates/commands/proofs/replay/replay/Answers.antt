use Rattle.std.proofs.Common.{rules, string_bytes}
use Rattle.string_cache.specs.Tables.{empty_tables}
use Rattle.replay_script.specs.Replay.{IsReplay}
use Rattle.commands.proofs.ToldLemmas.{output_there, output_told}
use Rattle.commands.proofs.replay.replay.Goals as goal

pub returns-clause-told : goal.returns-clause-told
returns-clause-told g c =
    output_told _ (string_bytes c.in_ok-text.text) c.deref.result.now (string_bytes c.in_ok-output.output)
    c.in_ok-text.ensures.ended c.in_ok-text.ensures.utf8 (search rules) c.in_ok-text.ensures.bytes (search rules) c.in_ok-output.ensures.output (search rules)
    (rw c.as_bytes.ensures.value at c.write_whole.ensures.ok) c.write_whole.ensures.sound
    (rw c.as_bytes.ensures.value at c.write_whole.ensures.err) c.write_whole.ensures.fault c.write_whole.ensures.failed

pub returns-clause-ran : goal.returns-clause-ran
returns-clause-ran g c = λ e. output_there (IsReplay empty_tables) _ (string_bytes c.in_ok-text.text) c.deref.result.now (string_bytes c.in_ok-output.output) c.in_ok-text.ensures.bytes (search rules) c.in_ok-output.ensures.output
