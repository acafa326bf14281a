use Rattle.std.proofs.Common.{ℕ, List, OnErr, subst}
use Rattle.commands.specs.CountLines.{count_lines}
use Rattle.text_streams.specs.Streams.{AppendsBeginning}
use Rattle.commands.proofs.count.write_counts_named.Goals as goal

pub returns-clause-err : goal.returns-clause-err
returns-clause-err g c = subst (λ (text : List ℕ). OnErr c.write_counts_in.result
    (AppendsBeginning (g.K.Sink.contents c.args.writer.now) (g.K.Sink.contents c.write_counts_in.new.writer) (count_lines text)))
    c.as_str.ensures.value c.write_counts_in.ensures.err
