use Rattle.std.proofs.Common.{◌≡◌, IfOk, map, subst, sym}
use Rattle.word_counts.specs.Parts.{words_of_part}
use Rattle.word_counts.specs.WordCounts.{counted_texts, word_counts}
use Rattle.word_counts.proofs.MergeLemmas.{gathered}
use Rattle.word_counts.proofs.count.named_workers.+counts_of_each.Goals as goal

pub returns-clause-counts : goal.returns-clause-counts
returns-clause-counts g t c =
    let own = subst (λ part. IfOk c.join-own.result (λ counts. counted_texts counts.items ≡ word_counts (words_of_part part))) c.in-Ok.ensures.ok c.join-own.ensures.0 in
    subst (λ parts. IfOk c.with_last.result (λ lists. map (λ list. counted_texts list.items) lists.items ≡ map (λ part. word_counts (words_of_part part)) parts)) (sym c.in-Some.ensures.cases.0)
    (gathered (λ lists. lists.items) (λ list. counted_texts list.items) (λ part. word_counts (words_of_part part)) c.in-Some.lower.now c.in-Some.part.now c.with_last.result c.counts_of_each-below.result c.join-own.result
    c.with_last.ensures.lists c.counts_of_each-below.ensures.counts own)
