use Rattle.std.proofs.Common.{◌∙◌, ap, subst, OnErr, ℕ, List}
use Rattle.std.specs.List.{flat_map}
use Rattle.commands.specs.CountLines.{count_line}
use Rattle.text_streams.specs.Streams.{AppendsBeginning}
use Rattle.word_counts.specs.WordCounts.{counted_texts}
use Rattle.text_streams.proofs.StreamLemmas.{on_err, beginning_nothing, keeps_same}
use Rattle.commands.proofs.count.write_counts_in.Goals as goal

pub returns-in_err-counts-clause-err : goal.returns-in_err-counts-clause-err
returns-in_err-counts-clause-err g c = on_err _ (beginning_nothing _ _ _ (keeps_same _))

pub returns-clause-err : goal.returns-clause-err
returns-clause-err g c = subst (λ (counts : List (List ℕ × ℕ)). OnErr c.write_all.result
    (AppendsBeginning (g.K.Sink.contents c.args.writer.now) (g.K.Sink.contents c.write_all.new.writer) (flat_map count_line counts)))
    (ap counted_texts c.deref_mut.ensures.value ∙ c.in_ok-counts.ensures.counts) c.write_all.ensures.err
