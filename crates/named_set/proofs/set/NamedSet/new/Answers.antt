use Rattle.std.proofs.Common.{refl}
use Rattle.named_set.proofs.set.NamedSet.new.Goals as goal

-- the set keeps the limits that it is given
pub returns-clause-limits : goal.returns-clause-limits
returns-clause-limits g c = refl
