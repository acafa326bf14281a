use Rattle.std.proofs.Common.{ap, ◌∙◌}
use Rattle.word_counts.specs.WordCounts.{counted_texts}
use Rattle.word_counts.proofs.WordCountLemmas.{pairs_are, if_ok_map}
use Rattle.word_counts.proofs.count.tally.into_pairs.Goals as goal

pub returns : goal.returns
returns g c words is = if_ok_map (λ pairs e. ap counted_texts e ∙ pairs_are c.args.tally c.in_ok-counts.counts words is c.in_ok-counts.ensures) c.entries_of.result c.entries_of.ensures
