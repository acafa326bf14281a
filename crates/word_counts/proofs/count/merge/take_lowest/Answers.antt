use Rattle.std.proofs.Common.{sym, ◌∙◌}
use Rattle.word_counts.specs.WordCounts.{counted_texts}
use Rattle.word_counts.proofs.MergeLemmas.{first_fits, rest_fits, takes_less}
use Rattle.word_counts.proofs.count.merge.take_lowest.Goals as goal

pub with_more-requires-clause-pair : goal.with_more-requires-clause-pair
with_more-requires-clause-pair g c = first_fits c.in_ok-pair-in-Equal.pair c.args.front.now.items c.pop_front-in-Equal.new.self.items c.in_ok-pair-in-Equal.ensures.items c.requires.front

pub with_more-requires-clause-more : goal.with_more-requires-clause-more
with_more-requires-clause-more g c = first_fits c.in_ok-other-in-Equal.other c.args.back.now.items c.pop_front-in-Equal-2.new.self.items c.in_ok-other-in-Equal.ensures.items c.requires.back

pub returns-in-Less-clause-front : goal.returns-in-Less-clause-front
returns-in-Less-clause-front g c = rest_fits c.args.front.now.items c.pop_front.new.self.items c.pop_front.ensures.rest c.requires.front

pub returns-in-Less-clause-pair : goal.returns-in-Less-clause-pair
returns-in-Less-clause-pair g c =
    takes_less (counted_texts c.args.back.now.items) c.args.front.now.items c.pop_front.new.self.items c.pop_front.result c.pop_front.ensures.items c.pop_front.ensures.rest
    (sym c.order_of_first.ensures ∙ c.in-Less.is)

pub returns-in-Greater-clause-back : goal.returns-in-Greater-clause-back
returns-in-Greater-clause-back g c = rest_fits c.args.back.now.items c.pop_front-in-Greater.new.self.items c.pop_front-in-Greater.ensures.rest c.requires.back

pub returns-in_ok-other-in-Equal-clause-front : goal.returns-in_ok-other-in-Equal-clause-front
returns-in_ok-other-in-Equal-clause-front g c = rest_fits c.args.front.now.items c.pop_front-in-Equal.new.self.items c.in_ok-pair-in-Equal.ensures.rest c.requires.front

pub returns-in_ok-other-in-Equal-clause-back : goal.returns-in_ok-other-in-Equal-clause-back
returns-in_ok-other-in-Equal-clause-back g c = rest_fits c.args.back.now.items c.pop_front-in-Equal-2.new.self.items c.in_ok-other-in-Equal.ensures.rest c.requires.back
