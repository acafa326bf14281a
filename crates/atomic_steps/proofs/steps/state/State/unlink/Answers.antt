use Rattle.std.proofs.Common.{◌∙◌, sym}
use Rattle.atomic_steps.proofs.rows.AtPlaces.{unlink_zero, unlink_kept}
use Rattle.atomic_steps.proofs.steps.state.State.unlink.Goals as goal

pub returns-then-count_at-eq0-clause-ok : goal.returns-then-count_at-eq0-clause-ok
returns-then-count_at-eq0-clause-ok c = λ tables.
    let p = c.in-Some.ensures in
    let e = c.in-Some-entry_place.ensures in
    unlink_zero tables _ _ _ _ _ p e (sym (c.count_at.ensures e.entry e.there) ∙ c.if-count_at-eq0.true)
    (sym (c.may_unlink.ensures p.pass e.entry p.there e.there) ∙ c.if-not-may_unlink.false) _ (c.set_unlinked.ensures e.entry e.there)

pub returns-clause-ok : goal.returns-clause-ok
returns-clause-ok c = λ tables.
    let p = c.in-Some.ensures in
    let e = c.in-Some-entry_place.ensures in
    unlink_kept tables _ _ _ _ _ p e (λ h. c.if-count_at-eq0.false (c.count_at.ensures e.entry e.there ∙ h))
    (sym (c.may_unlink.ensures p.pass e.entry p.there e.there) ∙ c.if-not-may_unlink.false) _ (c.in_ok-look_at.ensures.ok p.pass p.there)
