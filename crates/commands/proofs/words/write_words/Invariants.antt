use Rattle.std.proofs.Common.{◌≡◌, false, string_bytes}
use Rattle.std.specs.Str.Iter.{split_whitespace_rest}
use Rattle.commands.proofs.Progress.{Progress}
use Rattle.commands.proofs.words.write_words.Given as goal

abbrev pub invariant-loop-word : goal.invariant-loop-word
invariant-loop-word g l =
    (g.K.Sink.has_failed l.writer ≡ false) ×
    Progress (g.K.Sink.contents l.initial.writer) (g.K.Sink.contents l.writer) l.text (split_whitespace_rest l.word-iterator) (string_bytes l.pending) l.counts
