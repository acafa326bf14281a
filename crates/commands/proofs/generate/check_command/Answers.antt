use Rattle.std.proofs.Common.{rules, string_bytes}
use Rattle.commands.proofs.ToldLemmas.{output_told}
use Rattle.commands.proofs.generate.check_command.Goals as goal

pub returns : goal.returns
returns g c =
    output_told _ (string_bytes c.in_ok-text.text) c.deref.result.now c.in_ok-answer.answer.now
    c.in_ok-text.ensures.ended c.in_ok-text.ensures.utf8 (search rules) c.in_ok-text.ensures.bytes (search rules) c.in_ok-answer.ensures.ok (search rules)
    (rw c.as_bytes.ensures.value at c.write_whole.ensures.ok) c.write_whole.ensures.sound
    (rw c.as_bytes.ensures.value at c.write_whole.ensures.err) c.write_whole.ensures.fault c.write_whole.ensures.failed
