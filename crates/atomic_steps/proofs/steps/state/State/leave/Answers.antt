use Rattle.std.proofs.Common.{◌∙◌, ap, sym, List}
use Rattle.atomic_steps.specs.World.{PartyPass}
use Rattle.atomic_steps.specs.declared.steps.StepReply.TheVariants as reply
use Rattle.atomic_steps.proofs.lists.Facts.{none_then, some_then, test_fails, test_holds, replied}
use Rattle.atomic_steps.proofs.steps.state.State.leave.Goals as goal

pub returns-in_default : goal.returns-in_default
returns-in_default c = λ tables. none_then _ _ _ c.in_default.ensures

pub returns-then-not-may_leave : goal.returns-then-not-may_leave
returns-then-not-may_leave c = λ tables.
    let at = c.in-Some.ensures in
    some_then _ _ _ _ at.found ∙ test_fails _ _ _ (sym (c.may_leave.ensures at.pass at.there) ∙ c.if-not-may_leave.true)

pub returns : goal.returns
returns c = λ tables.
    let at = c.in-Some.ensures in
    some_then _ _ _ _ at.found ∙ test_holds _ _ _ (sym (c.may_leave.ensures at.pass at.there) ∙ c.if-not-may_leave.false)
    ∙ replied reply.Left _ _ (ap (λ (ps : List PartyPass). record c.args.self.now { passes = ps }) at.removes ∙ sym c.end_pass.ensures)
