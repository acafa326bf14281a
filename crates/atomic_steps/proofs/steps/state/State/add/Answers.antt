use Rattle.std.proofs.Common.{◌≡◌, ◌∙◌, ap, sym, subst, arith, ◌+◌}
use Rattle.std.specs.Prelude.{slice_get, slice_set}
use Rattle.std.proofs.lemmas.Option.{slice_get_within}
use Rattle.atomic_steps.specs.Sound.{SoundTable}
use Rattle.atomic_steps.specs.World.{WorldEntry, World}
use Rattle.atomic_steps.specs.Steps.{with_one}
use Rattle.atomic_steps.proofs.lists.Facts.{at_one}
use Rattle.atomic_steps.proofs.rows.AtPlaces.{add_dying, add_full, add_added}
use Rattle.atomic_steps.proofs.steps.state.State.add.Goals as goal

pub returns-then-count-eq0-clause-ok : goal.returns-then-count-eq0-clause-ok
returns-then-count-eq0-clause-ok c = λ tables.
    let p = c.in-Some.ensures in
    let e = c.in-Some-entry_place.ensures in
    add_dying tables _ _ _ _ _ p e (sym (c.count_at-count.ensures e.entry e.there) ∙ c.if-count-eq0.true)
    (sym (c.may_add.ensures p.pass e.entry p.there e.there) ∙ c.if-not-may_add.false) _ (c.in_ok-find_dying.ensures.ok p.pass p.there)

pub returns-then-count-holders-clause-ok : goal.returns-then-count-holders-clause-ok
returns-then-count-holders-clause-ok c = λ tables.
    let p = c.in-Some.ensures in
    let e = c.in-Some-entry_place.ensures in
    let decided = c.in_ok-decide_on.ensures.ok p.pass p.there in
    add_full tables _ _ _ _ _ p e (λ h. c.if-count-eq0.false (c.count_at-count.ensures e.entry e.there ∙ h))
    (let count = c.count_at-count.ensures e.entry e.there in let limit = c.holders.ensures.value ∙ ap (λ (v : World). v.limits.holders) decided in omega (arith, count, limit, c.if-count-holders.true))
    (sym (c.may_add.ensures p.pass e.entry p.there e.there) ∙ c.if-not-may_add.false) _ decided

pub add_share-ticket-requires-clause-entry : goal.add_share-ticket-requires-clause-entry
add_share-ticket-requires-clause-entry c =
    let p = c.in-Some.ensures in
    let e = c.in-Some-entry_place.ensures in
    slice_get_within _ _ e.entry (ap (λ (v : World). slice_get v.entries c.in-Some-entry_place.k) (c.in_ok-decide_on.ensures.ok p.pass p.there) ∙ e.there)

pub add_share-ticket-requires-clause-sound : goal.add_share-ticket-requires-clause-sound
add_share-ticket-requires-clause-sound c =
    let p = c.in-Some.ensures in
    subst (λ (v : World). SoundTable v.entries v.lasts v.bag) (sym (c.in_ok-decide_on.ensures.ok p.pass p.there)) c.requires

pub add_share-ticket-requires-clause-fits : goal.add_share-ticket-requires-clause-fits
add_share-ticket-requires-clause-fits c = λ entry there.
    let p = c.in-Some.ensures in
    let e = c.in-Some-entry_place.ensures in
    let decided = c.in_ok-decide_on.ensures.ok p.pass p.there in
    let same : entry ≡ e.entry = at_one c.args.self.now.entries c.in-Some-entry_place.k entry e.entry (ap (λ (v : World). slice_get v.entries c.in-Some-entry_place.k) (sym decided) ∙ there) e.there in
    let count : c.count_at-count.result ≡ entry.count = c.count_at-count.ensures e.entry e.there ∙ ap (λ (v : WorldEntry). v.count) (sym same) in
    let some = c.if-count-eq0.false in
    let room = c.if-count-holders.false in
    let most = c.holders.ensures.below in
    (omega (arith, count, some), omega (arith, count, room, most))

pub returns-clause-ok : goal.returns-clause-ok
returns-clause-ok c = λ tables.
    let p = c.in-Some.ensures in
    let e = c.in-Some-entry_place.ensures in
    let k = c.in-Some-entry_place.k in
    let decided = c.in_ok-decide_on.ensures.ok p.pass p.there in
    let made = c.add_share-ticket.ensures e.entry (ap (λ (v : World). slice_get v.entries k) decided ∙ e.there) in
    add_added tables _ _ _ _ _ p e (λ h. c.if-count-eq0.false (c.count_at-count.ensures e.entry e.there ∙ h))
    (let count = c.count_at-count.ensures e.entry e.there in let limit = c.holders.ensures.value ∙ ap (λ (v : World). v.limits.holders) decided in omega (arith, count, limit, c.if-count-holders.false))
    (sym (c.may_add.ensures p.pass e.entry p.there e.there) ∙ c.if-not-may_add.false) _ _ _ made.0 made.1
    (made.2 ∙ ap (λ (v : World). record v { entries = slice_set v.entries k (record e.entry { count = e.entry.count + 1 }); bag = with_one e.entry.ticket v.bag }) decided)
