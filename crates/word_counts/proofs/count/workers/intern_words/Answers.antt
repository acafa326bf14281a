use Rattle.std.proofs.Common.{ap, sym, subst, ◌∙◌, ◌+◌, arith, rules}
use Rattle.std.specs.Str.Iter.{split_whitespace_rest}
use Rattle.word_counts.specs.Tally.{number_of, IsLabelled}
use Rattle.word_counts.proofs.PartLemmas.{Reached, reached_none, reached_before, reached_within, reached_all, reached_to, seen_fits}
use Rattle.word_counts.proofs.WordLemmas.{word_comes_off}
use Rattle.word_counts.proofs.count.workers.intern_words.Goals as goal
use Rattle.word_counts.proofs.count.workers.intern_words.Goals.{then-index-part-2+in_ok-intern_place, else-index-part-2}

pub loop-word-init : goal.loop-word-init
loop-word-init g c = record {
  reached = reached_none c.args.part.text.now _ c.args.part.from c.args.part.to (number_of c.args.tally.now) (search rules) (ap split_whitespace_rest c.into_iter-word-iterator.ensures.into_iter_gives ∙ c.split_whitespace-word-items.ensures.rest) c.requires.numbers;
  labelled = c.requires.labelled;
}

pub loop-word-preserved : goal.loop-word-preserved
loop-word-preserved g c =
    let before = c.loop-word.invariant.reached in
    let comes = word_comes_off before.cutting.left _ c.in-Some.word.now _ before.cutting.spells c.in-Some.ensures.steps in
    elim c.if-index-part-2.branch [
      | then-index-part-2+in_ok-intern_place w ↦ record {
        reached = reached_within before c.if-index-part.false w.if-index-part-2.true comes (λ q. ap (λ t. number_of t q) w.tally-is ∙ w.in_ok-intern_place.ensures.numbers q);
        labelled = subst IsLabelled (sym w.tally-is) w.in_ok-intern_place.ensures.labelled;
      }
      | else-index-part-2 w ↦ record {
        reached = subst (λ t. Reached c.args.part.text.now (split_whitespace_rest c.next.new.self) c.args.part.from c.args.part.to (c.loop-word.index + 1) (number_of t)) (sym w.tally-is)
            (reached_before before c.if-index-part.false w.if-index-part-2.false comes);
        labelled = subst IsLabelled (sym w.tally-is) c.loop-word.invariant.labelled;
      }
    ]

pub returns-in-None-clause-tally : goal.returns-in-None-clause-tally
returns-in-None-clause-tally g c = record {
  numbers = reached_all c.loop-word.invariant.reached c.in-None.ensures.steps.1;
  labelled = c.loop-word.invariant.labelled;
}

pub intern_place-requires-clause-fits : goal.intern_place-requires-clause-fits
intern_place-requires-clause-fits g c = omega (arith, seen_fits c.loop-word.invariant.reached c.in-Some.word.now, c.if-index-part.false, c.loop-word.auto.index-fits)

pub intern_place-requires-clause-labelled : goal.intern_place-requires-clause-labelled
intern_place-requires-clause-labelled g c = c.loop-word.invariant.labelled

pub returns-then-index-part-clause-tally : goal.returns-then-index-part-clause-tally
returns-then-index-part-clause-tally g c = record {
  numbers = reached_to c.loop-word.invariant.reached c.if-index-part.true;
  labelled = c.loop-word.invariant.labelled;
}
