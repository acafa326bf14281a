use Rattle.std.proofs.Common.{subst}
use Rattle.std.specs.Prelude.{IfOk}
use Rattle.word_counts.specs.MergedCounts.{AreMerged}
use Rattle.word_counts.specs.WordCounts.{counted_texts}
use Rattle.word_counts.proofs.MergeLemmas.{both_counts, both_few, few_fit}
use Rattle.word_counts.proofs.WordCountLemmas.{if_ok_map}
use Rattle.word_counts.proofs.count.merge.merge_halves.Goals as goal

pub join-front-requires-after_bounds : goal.join-front-requires-after_bounds
join-front-requires-after_bounds g c κs within = both_few (λ list. counted_texts list.items) _ c.args.lists.items c.split_off.new.self.items c.in_ok-upper.upper.items c.in_ok-upper.ensures.items c.in_ok-upper.ensures.tail c.requires

pub merge-requires-clause-front : goal.merge-requires-clause-front
merge-requires-clause-front g c = few_fit _ (counted_texts c.in_ok-front.front.items) (both_few (λ list. counted_texts list.items) _ c.args.lists.items c.split_off.new.self.items c.in_ok-upper.upper.items c.in_ok-upper.ensures.items c.in_ok-upper.ensures.tail c.requires).0 (subst (λ r. IfOk r (λ counts. AreMerged c.split_off.new.self.items counts)) c.in_ok-front.was c.join-front.ensures.first)

pub merge-requires-clause-back : goal.merge-requires-clause-back
merge-requires-clause-back g c = few_fit _ (counted_texts c.in_ok-back.back.items) (both_few (λ list. counted_texts list.items) _ c.args.lists.items c.split_off.new.self.items c.in_ok-upper.upper.items c.in_ok-upper.ensures.items c.in_ok-upper.ensures.tail c.requires).1 (subst (λ r. IfOk r (λ counts. AreMerged c.in_ok-upper.upper.items counts)) c.in_ok-back.was c.join-front.ensures.second)

pub returns : goal.returns
returns g c =
    if_ok_map
    (λ merged is ws counts. both_counts (λ list. counted_texts list.items) _ c.args.lists.items c.split_off.new.self.items c.in_ok-upper.upper.items (counted_texts c.in_ok-front.front.items) (counted_texts c.in_ok-back.back.items) (counted_texts merged.items) ws
    c.in_ok-upper.ensures.items c.in_ok-upper.ensures.tail counts (subst (λ r. IfOk r (λ counts. AreMerged c.split_off.new.self.items counts)) c.in_ok-front.was c.join-front.ensures.first) (subst (λ r. IfOk r (λ counts. AreMerged c.in_ok-upper.upper.items counts)) c.in_ok-back.was c.join-front.ensures.second) is)
    c.merge.result c.merge.ensures
