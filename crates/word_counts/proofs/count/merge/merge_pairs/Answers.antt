use Rattle.std.proofs.Common.{◌++◌, ◌∷◌, ap, sym, subst, ◌∙◌, arith, map}
use Rattle.word_counts.specs.MergedCounts.{AreCountsOf}
use Rattle.word_counts.specs.WordCounts.{counted_texts}
use Rattle.word_counts.proofs.MergeLemmas.{all_done, first_done, pair_done, pair_fits}
use Rattle.word_counts.proofs.count.merge.merge_pairs.Goals as goal
use Rattle.word_counts.proofs.count.merge.merge_pairs.Goals.{in-Some-pop_front+in_ok-list-in-Some-pop_front, in-None}

pub merge-requires-clause-front : goal.merge-requires-clause-front
merge-requires-clause-front g c =
    (pair_fits (λ list. counted_texts list.items) c.loop-front.merged.items c.loop-front.lists.items c.pop_front-in-Some.new.self.items c.in-Some.front c.in-Some-pop_front.back _ c.requires c.loop-front.invariant.whole
    (c.in-Some.ensures.items ∙ ap (λ l. c.in-Some.front ∷ l) c.in-Some-pop_front.ensures.items)).0

pub merge-requires-clause-back : goal.merge-requires-clause-back
merge-requires-clause-back g c =
    (pair_fits (λ list. counted_texts list.items) c.loop-front.merged.items c.loop-front.lists.items c.pop_front-in-Some.new.self.items c.in-Some.front c.in-Some-pop_front.back _ c.requires c.loop-front.invariant.whole
    (c.in-Some.ensures.items ∙ ap (λ l. c.in-Some.front ∷ l) c.in-Some-pop_front.ensures.items)).1

pub loop-front-preserved : goal.loop-front-preserved
loop-front-preserved g c =
    let before = c.loop-front.invariant in
    let done = c.loop-front.merged.items in
    let lists = c.loop-front.lists.items in
    let rest = c.pop_front-in-Some.new.self.items in
    let front = c.in-Some.front in
    let list = c.match-pop_front-2.list in
    elim c.match-pop_front-2.branch [
      | in-Some-pop_front+in_ok-list-in-Some-pop_front w ↦ record {
        whole = λ ws counts.
            subst (λ l. AreCountsOf ws (map (λ list. counted_texts list.items) l ++ map (λ list. counted_texts list.items) rest)) (sym c.in_ok-push_back.ensures.items)
            (pair_done (λ list. counted_texts list.items) done lists rest front w.in-Some-pop_front.back list ws (c.in-Some.ensures.items ∙ ap (λ l. front ∷ l) w.in-Some-pop_front.ensures.items)
            (ap (λ l. counted_texts l.items) w.list-is ∙ w.in_ok-list-in-Some-pop_front.ensures) (before.whole ws counts));
        halved = omega (arith, before.halved, before.even, c.in-Some.ensures.cases, w.in-Some-pop_front.ensures.cases, c.in_ok-push_back.ensures.len);
        even = λ some. omega (arith, before.even, c.in-Some.ensures.cases, w.in-Some-pop_front.ensures.cases, c.in_ok-push_back.ensures.len);
      }
      | in-None w ↦ record {
        whole = λ ws counts.
            subst (λ l. AreCountsOf ws (map (λ list. counted_texts list.items) l ++ map (λ list. counted_texts list.items) rest)) (sym c.in_ok-push_back.ensures.items)
            (first_done (λ list. counted_texts list.items) done lists rest list ws (c.in-Some.ensures.items ∙ ap (λ l. front ∷ l) w.in-None.ensures.items ∙ ap (λ a. a ∷ rest) (sym w.list-is)) (before.whole ws counts));
        halved = omega (arith, before.halved, before.even, c.in-Some.ensures.cases, w.in-None.ensures.cases, c.in_ok-push_back.ensures.len);
        even = λ some. omega (arith, some, w.in-None.ensures.cases);
      }
    ]

pub returns-clause-counts : goal.returns-clause-counts
returns-clause-counts g c ws counts =
    all_done (λ list. counted_texts list.items) c.loop-front.merged.items c.loop-front.lists.items c.pop_front.new.self.items ws c.in_default.ensures.items c.in_default.ensures.rest (c.loop-front.invariant.whole ws counts)
