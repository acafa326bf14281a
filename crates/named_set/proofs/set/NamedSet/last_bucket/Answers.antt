use Rattle.std.proofs.Common.{◌≡◌, ◌∙◌, ap, length, rules, slice_index_or, sym, ℕ}
use Rattle.named_set.proofs.Opening.{popped}
use Rattle.named_set.proofs.set.NamedSet.last_bucket.Goals as goal

pub new-requires-clause-name : goal.new-requires-clause-name
new-requires-clause-name g c =
    let number : c.len.result ≡ length c.pop.new.self.items = search rules in
    (popped c.args.logs.now.items c.pop.new.self.items c.in_ok-log.log g.N.SetName.logs c.in_ok-log.ensures.items c.requires.first).1 ∙ ap (λ (k : ℕ). slice_index_or g.N.SetName.logs k 0) (sym number)

pub new-requires-clause-empty : goal.new-requires-clause-empty
new-requires-clause-empty g c = (popped c.args.logs.now.items c.pop.new.self.items c.in_ok-log.log g.N.SetName.logs c.in_ok-log.ensures.items c.requires.first).2

pub returns-clause-first : goal.returns-clause-first
returns-clause-first g c = (popped c.args.logs.now.items c.pop.new.self.items c.in_ok-log.log g.N.SetName.logs c.in_ok-log.ensures.items c.requires.first).0
