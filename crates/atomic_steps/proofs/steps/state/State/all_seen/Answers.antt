use Rattle.std.proofs.Common.{◌≡◌, ◌∙◌, ap}
use Rattle.std.specs.Prelude.{slice_get}
use Rattle.atomic_steps.specs.World.{World}
use Rattle.atomic_steps.proofs.lists.Facts.{get_or_at}
use Rattle.atomic_steps.proofs.lists.Numbers.{seen_in, within_at}
use Rattle.atomic_steps.proofs.steps.state.State.all_seen.Goals as goal

pub returns : goal.returns
returns c = λ pass there.
    let at = c.args.at in
    let item : c.index-pass.result.now ≡ pass = c.index-pass.ensures ∙ get_or_at c.self.inside.passes.items at _ pass (ap (λ (v : World). slice_get v.passes at) c.self.view_is ∙ there) in
    seen_in _ c.args.self.now c.self.view_is _ pass (c.pass.view_is ∙ item) c.self.inside.lasts.items c.self.inside.linked.items c.self.invariant
    (within_at _ c.args.self.now c.self.view_is c.requires.below at pass _ there (c.pass.view_is ∙ item))
    c.index-listed.result.now _ c.index-listed.ensures c.deref.result.now c.deref.ensures.value c.deref-2.result.now c.deref-2.ensures.value c.all_seen.result c.all_seen.ensures
