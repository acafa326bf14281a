use Rattle.std.proofs.Common.{ap, sym, arith, ◌≡◌, ◌+◌, ◌∙◌}
use Rattle.word_counts.specs.Tally.{number_of}
use Rattle.word_counts.proofs.TallyLemmas.{added, own_put}
use Rattle.word_counts.proofs.count.tally.count_first.Goals as goal

pub returns-clause-numbers : goal.returns-clause-numbers
returns-clause-numbers g c =
    added c.args.tally.now c.insert.new.self c.args.word.now (c.args.atom, 1) 1 c.in_ok-insert.ensures.updates (ap (λ n. n + 1) (sym c.requires.absent))

pub returns-clause-labelled : goal.returns-clause-labelled
returns-clause-labelled g c = record {
  distinct = c.in_ok-insert.ensures.unique;
  own = own_put c.args.tally.now c.insert.new.self c.args.word (c.args.atom, 1) _ c.requires.of_word (omega arith) c.in_ok-insert.ensures.entries c.requires.labelled.own;
}
