use Rattle.atomic_steps.proofs.passes.Goes.{pass_is_steps_all}
use Rattle.atomic_steps.proofs.steps.pass_is_steps.Goals as goal

pub returns : goal.returns
returns g c = pass_is_steps_all
