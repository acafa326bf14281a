use Rattle.std.proofs.Common.{arith}
use Rattle.std.proofs.lemmas.Bool.{ltb-true, ltb-false}
use Rattle.atomic_steps.proofs.worlds.Bag.{has_by_count}
use Rattle.atomic_steps.proofs.steps.state.State.is_held.Goals as goal

pub returns : goal.returns
returns c = λ entry there.
    let count = c.count_at.ensures entry there in
    has_by_count _ _ _ c.requires.sound c.args.k entry there _
    (λ h. let above = ltb-true 0 c.count_at.result h in omega (arith, above, count))
    (λ h. let none = ltb-false 0 c.count_at.result h in omega (arith, none, count))
