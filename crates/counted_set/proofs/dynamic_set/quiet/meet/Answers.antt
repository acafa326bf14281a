use Rattle.std.proofs.Common.{[], ◌∷◌, refl}
use Rattle.std.proofs.lemmas.Bool.{false≢true}
use Rattle.counted_set.proofs.dynamic_set.quiet.meet.Goals as goal

pub returns-in-None : goal.returns-in-None
returns-in-None g c = record {
  quiet = c.args.entry.now ∷ [];
  left = [];
  before = c.dying.new.self;
  split = refl;
  asked = (c.dying.new.self, (λ is. false≢true (c.if-is_alike.ensures.1 is), c.in-None.ensures.gives), refl);
  ends = (refl, refl);
  at = tt;
}
