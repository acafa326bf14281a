use Rattle.std.proofs.Common.{sym, subst, length, ◌<◌, ◌≡◌, ◌∙◌, ◌+◌, ap, refl}
use Rattle.std.specs.Prelude.{slice_get, slice_set}
use Rattle.std.specs.Vec.{with_item}
use Rattle.atomic_steps.specs.World.{is_linked, WorldEntry, World}
use Rattle.atomic_steps.proofs.lists.Facts.{get_or_at}
use Rattle.atomic_steps.proofs.lists.Numbers.{kept_change}
use Rattle.atomic_steps.proofs.worlds.Bag.{raised_world}
use Rattle.atomic_steps.proofs.steps.state.State.add_share.Goals as goal

pub returns : goal.returns
returns c = λ entry there.
    let old = c.self.inside.entries.items in
    let k = c.args.k in
    let item : c.index_mut-entry.result.now ≡ entry = c.index_mut-entry.ensures.value ∙ get_or_at old k _ entry (ap (λ (v : World). slice_get v.entries k) c.self.view_is ∙ there) in
    let changed : c.add_holder.new.self ≡ record entry { count = entry.count + 1 } = c.add_holder.ensures ∙ ap (λ (entry : WorldEntry). record entry { count = entry.count + 1 }) item in
    let es = with_item c.self.inside.entries k c.add_holder.new.self in
    let is : es.items ≡ slice_set c.args.self.now.entries k (record entry { count = entry.count + 1 }) =
    ap (λ (e : WorldEntry). slice_set old k e) changed ∙ ap (λ (v : World). slice_set v.entries k (record entry { count = entry.count + 1 })) c.self.view_is in
    let now = c.entry.view_is ∙ changed in (
      ap (λ (e : WorldEntry). e.ticket) now,
      ap (λ (e : WorldEntry). e.count) now,
      raised_world _ c.args.self.now c.self.view_is refl c.requires.sound k entry there (c.requires.fits entry there).0 es.items is,
    )

pub invariant_of-self : goal.invariant_of-self
invariant_of-self c =
    kept_change c.self.inside.entries.items c.self.inside.lasts.items c.self.inside.linked.items c.self.invariant c.args.k c.index_mut-entry.result.now c.add_holder.new.self _
    (subst (λ (v : World). c.args.k < length v.entries) (sym c.self.view_is) c.requires.entry) c.index_mut-entry.ensures.value (ap (λ (e : WorldEntry). e.bucket) c.add_holder.ensures) (λ l. sym (ap (λ (e : WorldEntry). is_linked e.place) c.add_holder.ensures) ∙ l)
