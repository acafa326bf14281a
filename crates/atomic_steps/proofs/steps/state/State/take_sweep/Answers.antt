use Rattle.std.proofs.Common.{◌∙◌, sym}
use Rattle.atomic_steps.proofs.rows.AtEntries.{sweep_taken}
use Rattle.atomic_steps.proofs.steps.state.State.take_sweep.Goals as goal

pub returns-clause-ok : goal.returns-clause-ok
returns-clause-ok c = λ tables.
    let b = c.in-Some.ensures.some in
    sweep_taken tables _ _ _ _ b.0 b.1 (sym c.is_idle_and_free.ensures ∙ c.if-not-is_idle_and_free.false) _ c.in_ok-start_pass.ensures.ok
