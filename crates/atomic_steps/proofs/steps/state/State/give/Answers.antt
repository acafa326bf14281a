use Rattle.std.proofs.Common.{◌∙◌, sym}
use Rattle.atomic_steps.proofs.rows.AtEntries.{give_given}
use Rattle.atomic_steps.proofs.worlds.Bag.{held_counts}
use Rattle.atomic_steps.proofs.steps.state.State.give.Goals as goal

pub give_share-left-requires-clause-held : goal.give_share-left-requires-clause-held
give_share-left-requires-clause-held c = λ entry there.
    held_counts _ _ _ c.requires _ entry there (sym (c.is_held.ensures entry there) ∙ c.if-not-is_held.false)

pub returns : goal.returns
returns c = λ tables party.
    let e = c.in-Some.ensures in
    let made = c.give_share-left.ensures e.entry e.there in
    give_given tables _ party _ _ e (sym (c.is_held.ensures e.entry e.there) ∙ c.if-not-is_held.false) _ _ made.0 made.1
