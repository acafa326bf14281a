use Rattle.std.proofs.Common.{sym, subst, length, ◌<◌, ◌≡◌, ◌∙◌, ap, refl}
use Rattle.std.specs.Prelude.{slice_get, slice_set}
use Rattle.std.specs.Vec.{with_item}
use Rattle.atomic_steps.specs.declared.steps.world_entry.Place.TheVariants as place
use Rattle.atomic_steps.specs.World.{is_linked, WorldEntry, World}
use Rattle.atomic_steps.proofs.lists.Facts.{get_or_at}
use Rattle.atomic_steps.proofs.lists.Numbers.{kept_out, within_read}
use Rattle.atomic_steps.proofs.worlds.Bag.{moved_world}
use Rattle.atomic_steps.proofs.steps.state.State.set_unlinked.Goals as goal

pub returns : goal.returns
returns c = λ entry there.
    let old = c.self.inside.entries.items in
    let k = c.args.k in
    let item : c.index_mut-entry.result.now ≡ entry = c.index_mut-entry.ensures.value ∙ get_or_at old k _ entry (ap (λ (v : World). slice_get v.entries k) c.self.view_is ∙ there) in
    let changed : c.unlink.new.self ≡ record entry { place = place.UnlinkedBy c.args.party } = c.unlink.ensures ∙ ap (λ (entry : WorldEntry). record entry { place = place.UnlinkedBy c.args.party }) item in
    let es = with_item c.self.inside.entries k c.unlink.new.self in
    let is : es.items ≡ slice_set c.args.self.now.entries k (record entry { place = place.UnlinkedBy c.args.party }) =
    ap (λ (e : WorldEntry). slice_set old k e) changed ∙ ap (λ (v : World). slice_set v.entries k (record entry { place = place.UnlinkedBy c.args.party })) c.self.view_is in
    moved_world _ c.args.self.now c.self.view_is refl k entry (place.UnlinkedBy c.args.party) there es.items is

pub invariant_of-self : goal.invariant_of-self
invariant_of-self c =
    let inside = within_read _ c.args.self.now c.self.view_is c.requires.below c.args.at c.requires.pass _ c.index-pass.result.now _ c.index-pass.ensures c.pass.view_is in
    kept_out c.self.inside.entries.items c.self.inside.lasts.items c.self.inside.linked.items c.self.invariant c.args.k c.index_mut-entry.result.now c.unlink.new.self _
    c.pass.inside.bucket c.index_mut.result.now c.take_out.new.self _
    (subst (λ (v : World). c.args.k < length v.entries) (sym c.self.view_is) c.requires.entry) c.index_mut-entry.ensures.value
    (ap (λ (e : WorldEntry). is_linked e.place) c.unlink.ensures) inside c.index_mut.ensures.value c.take_out.ensures
