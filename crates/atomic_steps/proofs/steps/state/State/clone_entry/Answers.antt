use Rattle.std.proofs.Common.{◌∙◌, sym, arith}
use Rattle.atomic_steps.proofs.worlds.Bag.{held_counts}
use Rattle.atomic_steps.proofs.rows.AtEntries.{clone_full, clone_more}
use Rattle.atomic_steps.proofs.steps.state.State.clone_entry.Goals as goal

pub returns-then-count_at-holders : goal.returns-then-count_at-holders
returns-then-count_at-holders c = λ tables party.
    let e = c.in-Some.ensures in
    let count = c.count_at.ensures e.entry e.there in
    clone_full tables _ party _ _ e (sym (c.is_held.ensures e.entry e.there) ∙ c.if-not-is_held.false)
    (let full = c.if-count_at-holders.true in let most = c.holders.ensures.value in omega (arith, count, full, most))

pub add_share-holders-requires-clause-fits : goal.add_share-holders-requires-clause-fits
add_share-holders-requires-clause-fits c = λ entry there.
    let held = sym (c.is_held.ensures entry there) ∙ c.if-not-is_held.false in
    let count = c.count_at.ensures entry there in
    let room = c.if-count_at-holders.false in
    let most = c.holders.ensures.below in
    (held_counts _ _ _ c.requires _ entry there held, omega (arith, count, room, most))

pub returns : goal.returns
returns c = λ tables party.
    let e = c.in-Some.ensures in
    let count = c.count_at.ensures e.entry e.there in
    let made = c.add_share-holders.ensures e.entry e.there in
    clone_more tables _ party _ _ e (sym (c.is_held.ensures e.entry e.there) ∙ c.if-not-is_held.false)
    (let room = c.if-count_at-holders.false in let most = c.holders.ensures.value in omega (arith, count, room, most)) _ _ made.1 made.2
