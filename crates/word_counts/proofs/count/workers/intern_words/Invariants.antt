use Rattle.std.specs.Str.Iter.{split_whitespace_rest}
use Rattle.word_counts.specs.Tally.{number_of, IsLabelled}
use Rattle.word_counts.proofs.PartLemmas.{Reached}
use Rattle.word_counts.proofs.count.workers.intern_words.Given as goal

abbrev pub invariant-loop-word : goal.invariant-loop-word
invariant-loop-word g l = record {
  reached : Reached l.part.text.now (split_whitespace_rest l.word-iterator) l.part.from l.part.to l.index (number_of l.tally);
  labelled : IsLabelled l.tally;
}
