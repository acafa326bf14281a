use Rattle.std.proofs.Common.{◌+◌, ◌≡◌, ap, sym, subst, IfSome, arith, rules}
use Rattle.word_counts.proofs.TallyLemmas.{added, number_in, own_found, own_set}
use Rattle.word_counts.proofs.count.tally.count_again.Goals as goal

pub returns-clause-numbers : goal.returns-clause-numbers
returns-clause-numbers g c =
    let held = c.in_ok-held.held.now in
    let writes = c.get_mut.follows.holds (held.0, held.1 + 1) in
    added c.args.tally.now (c.get_mut.follows.lender (held.0, held.1 + 1)) c.args.word.now (held.0, held.1 + 1) 1 (writes.3 (search rules))
    (ap (λ found. number_in found + 1) c.in_ok-held.ensures.value)

pub returns-clause-labelled : goal.returns-clause-labelled
returns-clause-labelled g c =
    let held = c.in_ok-held.held.now in
    let writes = c.get_mut.follows.holds (held.0, held.1 + 1) in
    let own = c.requires.labelled.own in
    let text = subst (λ found. IfSome found (λ f. f.0.text ≡ c.args.word.now)) (sym c.in_ok-held.ensures.value) (own_found c.args.word.now c.args.tally.now.entries own) in
    record {
      distinct = writes.4;
      own = rw (writes.0) (own_set c.args.word (held.0, held.1 + 1) text (omega arith) c.args.tally.now.entries own);
    }
