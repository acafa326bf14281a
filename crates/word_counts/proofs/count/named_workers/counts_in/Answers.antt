use Rattle.std.proofs.Common.{ap, arith, map, ◌∙◌}
use Rattle.word_counts.specs.Parts.{words_of_part}
use Rattle.word_counts.specs.WordCounts.{word_counts}
use Rattle.word_counts.specs.Words.{words}
use Rattle.word_counts.proofs.PartLemmas.{counts_of_parts}
use Rattle.word_counts.proofs.WordLemmas.{length-words-le}
use Rattle.word_counts.proofs.count.named_workers.counts_in.Goals as goal

pub merge_here-requires : goal.merge_here-requires
merge_here-requires g c = (
  words c.args.text.now,
  omega (arith, length-words-le c.args.text.now c.utf8.text, c.well_formed),
  counts_of_parts c.in_ok-parts.parts.items (words c.args.text.now) _ c.in_ok-parts.ensures.words (c.in_ok-lists.ensures.counts ∙ ap (map (λ part. word_counts (words_of_part part))) c.deref.ensures.value),
)

pub returns-clause-counts : goal.returns-clause-counts
returns-clause-counts g c =
    let ws = words c.args.text.now in
    c.in_ok-counts.ensures ws (counts_of_parts c.in_ok-parts.parts.items ws _ c.in_ok-parts.ensures.words (c.in_ok-lists.ensures.counts ∙ ap (map (λ part. word_counts (words_of_part part))) c.deref.ensures.value))
