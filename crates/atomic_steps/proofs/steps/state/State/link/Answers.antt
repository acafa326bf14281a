use Rattle.std.proofs.Common.{◌≡◌, ◌∙◌, ap, sym, arith, ℕ, ◌+◌}
use Rattle.std.specs.Prelude.{is_some}
use Rattle.atomic_steps.specs.World.{PartyPass}
use Rattle.atomic_steps.proofs.worlds.Apart.{all_within, placed_in}
use Rattle.atomic_steps.proofs.lists.Facts.{at_one}
use Rattle.text_forms.specs.Tables.{empty_tables}
use Rattle.atomic_steps.proofs.rows.AtPlaces.{link_no, link_spent, link_memory, link_linked, text_to_link}
use Rattle.atomic_steps.proofs.steps.state.State.link.Goals as goal

pub returns-then-not-may_link-clause-ok : goal.returns-then-not-may_link-clause-ok
returns-then-not-may_link-clause-ok g c = λ tables.
    let p = c.in-Some.ensures in
    link_no tables _ _ _ _ p (sym (c.may_link.ensures p.pass p.there) ∙ c.if-not-may_link.true)

pub last_at-last-requires-clause-below : goal.last_at-last-requires-clause-below
last_at-last-requires-clause-below g c = all_within g.S.StaticTables.tables c.args.self.now c.requires

pub may_link-requires-clause-below : goal.may_link-requires-clause-below
may_link-requires-clause-below g c = all_within g.S.StaticTables.tables c.args.self.now c.requires

pub link_entry-requires-clause-below : goal.link_entry-requires-clause-below
link_entry-requires-clause-below g c = all_within g.S.StaticTables.tables c.args.self.now c.requires

pub link_entry-requires-clause-wanted : goal.link_entry-requires-clause-wanted
link_entry-requires-clause-wanted g c = λ pass there.
    let p = c.in-Some.ensures in
    let t = text_to_link empty_tables _ _ _ c.args.room p (sym (c.may_link.ensures p.pass p.there) ∙ c.if-not-may_link.false) in (
      ap (λ (q : PartyPass). is_some q.wanted) (at_one c.args.self.now.passes c.in-Some.at pass p.pass there p.there) ∙ ap is_some t.1,
      ap (λ (n : ℕ). n + 1) (c.last_at-last.ensures pass there),
    )

pub returns-then-last-serials-clause-ok : goal.returns-then-last-serials-clause-ok
returns-then-last-serials-clause-ok g c = λ tables.
    let p = c.in-Some.ensures in
    link_spent tables _ _ _ _ p (sym (c.may_link.ensures p.pass p.there) ∙ c.if-not-may_link.false)
    (let last = c.last_at-last.ensures p.pass p.there in let limit = c.serials.ensures.value in omega (arith, last, limit, c.if-last-serials.true))
    _ (c.decide.ensures p.pass p.there)

pub returns-then-not-room-clause-ok : goal.returns-then-not-room-clause-ok
returns-then-not-room-clause-ok g c = λ tables.
    let p = c.in-Some.ensures in
    link_memory tables _ _ _ _ p (sym (c.may_link.ensures p.pass p.there) ∙ c.if-not-may_link.false)
    (let last = c.last_at-last.ensures p.pass p.there in let limit = c.serials.ensures.value in omega (arith, last, limit, c.if-last-serials.false))
    c.if-not-room.true _ (c.decide-then-not-room.ensures p.pass p.there)

pub returns-clause-ok : goal.returns-clause-ok
returns-clause-ok g c = λ tables.
    let p = c.in-Some.ensures in
    let may = sym (c.may_link.ensures p.pass p.there) ∙ c.if-not-may_link.false in
    let t = text_to_link tables _ _ _ c.args.room p may in
    let linked = c.in_ok-entry.ensures.ok p.pass t.0 p.there t.1 in
    link_linked tables _ _ _ _ p may
    (let last = c.last_at-last.ensures p.pass p.there in let limit = c.serials.ensures.value in omega (arith, last, limit, c.if-last-serials.false))
    c.if-not-room.false (c.last_at-last.result + 1) _ _ _ (ap (λ (n : ℕ). n + 1) (c.last_at-last.ensures p.pass p.there)) linked.0 linked.1 linked.2

pub may_link-requires-clause-placed : goal.may_link-requires-clause-placed
may_link-requires-clause-placed g c = λ pass text k entry there wanted at is.
    let p = c.in-Some.ensures in
    let same : pass ≡ p.pass = at_one c.args.self.now.passes c.in-Some.at pass p.pass there p.there in
    placed_in g.S.StaticTables.tables c.args.self.now c.requires c.args.party pass p.pass text p.found same wanted k entry at is

pub link_entry-requires-clause-sound : goal.link_entry-requires-clause-sound
link_entry-requires-clause-sound g c = c.requires.sound.table
