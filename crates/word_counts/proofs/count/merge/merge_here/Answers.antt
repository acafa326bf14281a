use Rattle.std.proofs.Common.{ap, ◌∙◌, arith}
use Rattle.word_counts.specs.WordCounts.{counted_texts}
use Rattle.word_counts.proofs.MergeLemmas.{last_counts}
use Rattle.word_counts.proofs.count.merge.merge_here.Goals as goal

pub merge_pairs-requires : goal.merge_pairs-requires
merge_pairs-requires g c = (c.requires.0, c.requires.1, c.loop-lists.invariant c.requires.0 c.requires.2)

pub returns : goal.returns
returns g c ws counts =
    ap (λ list. counted_texts list.items) c.unwrap_or.ensures
    ∙ last_counts (λ list. counted_texts list.items) c.loop-lists.lists.items c.pop_front.new.self.items c.pop_front.result c.new.result ws c.pop_front.ensures.items c.pop_front.ensures.rest
    (omega (arith, c.loop-lists.lists.ok.0, c.len.ensures, c.loop-lists-test.false)) (ap counted_texts c.new.ensures.items) (c.loop-lists.invariant ws counts)
