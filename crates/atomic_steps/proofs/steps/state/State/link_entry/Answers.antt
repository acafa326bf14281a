use Rattle.std.proofs.Common.{◌≡◌, ◌∙◌, ℕ, ◌+◌, ◌<◌, ap, refl, sym, List, [], ◌∷◌, ◌++◌, length, Option, Some}
use Rattle.std.specs.Prelude.{slice_get, slice_set}
use Rattle.std.specs.String.{string_bytes}
use Rattle.atomic_steps.specs.declared.steps.world_entry.Place.TheVariants as place
use Rattle.text_forms.specs.Word.{ticket_of}
use Rattle.atomic_steps.specs.World.{WorldEntry, PartyPass, World}
use Rattle.atomic_steps.specs.Steps.{looks_at, decides}
use Rattle.atomic_steps.proofs.lists.Facts.{get_or_at}
use Rattle.atomic_steps.proofs.lists.Numbers.{kept_link, within_read}
use Rattle.atomic_steps.proofs.worlds.Bag.{pushed_world}
use Rattle.atomic_steps.proofs.steps.state.State.link_entry.Goals as goal

pub returns-clause-ok : goal.returns-clause-ok
returns-clause-ok c = λ pass text there wanted.
    let now = c.args.self.now in
    let at = c.args.at in
    let serial = c.args.serial in
    let n = length now.entries + 1 in
    let item : c.index_mut-pass.result.now ≡ pass = c.index_mut-pass.ensures.value ∙ get_or_at c.self.inside.passes.items at _ pass (ap (λ (v : World). slice_get v.passes at) c.self.view_is ∙ there) in
    let bucket : c.pass.inside.bucket ≡ pass.bucket = ap (λ (p : PartyPass). p.bucket) (c.pass.view_is ∙ item) in
    let same : c.reserve.new.self.items ≡ now.entries = c.reserve.ensures.items ∙ ap (λ (v : World). v.entries) c.self.view_is in
    let number : c.len.result ≡ length now.entries = c.len.ensures ∙ c.reserve.new.self.ok.0 ∙ ap length same in
    let linked : c.link.new.self ≡ decides (looks_at pass n) = c.in_ok-text.ensures.ok.0 ∙ ap (λ (p : PartyPass). decides (looks_at p (c.len.result + 1))) item ∙ ap (λ (m : ℕ). decides (looks_at pass (m + 1))) number in
    let given : ◌≡◌ {A = Option (List ℕ)} (Some (string_bytes c.in_ok-text.text)) (Some text) = sym c.in_ok-text.ensures.text ∙ ap (λ (p : PartyPass). p.wanted) item ∙ wanted in
    let text_is : string_bytes c.in_ok-text.text ≡ text = cc in
    let ticket : c.ticket_word-ticket.result ≡ ticket_of serial pass.bucket = c.ticket_word-ticket.ensures ∙ ap (λ (b : ℕ). ticket_of serial b) bucket in
    let y : WorldEntry = record { text = text; bucket = pass.bucket; ticket = ticket_of serial pass.bucket; count = 1; place = place.Linked } in
    let entry : ◌≡◌ {A = WorldEntry} (record { text = string_bytes c.in_ok-text.text; bucket = c.pass.inside.bucket; ticket = c.ticket_word-ticket.result; count = 1; place = place.Linked }) y =
    λ i. record { text = text_is i; bucket = bucket i; ticket = ticket i; count = 1; place = place.Linked } in
    let entries : c.push_reserved.new.self.items ≡ now.entries ++ y ∷ [] = c.push_reserved.ensures.items ∙ (λ i. same i ++ entry i ∷ []) in
    let lasts : slice_set c.self.inside.lasts.items c.pass.inside.bucket serial ≡ slice_set now.lasts pass.bucket serial =
    ap (λ (b : ℕ). slice_set c.self.inside.lasts.items b serial) bucket ∙ ap (λ (v : World). slice_set v.lasts pass.bucket serial) c.self.view_is in
    let passes : slice_set c.self.inside.passes.items at c.link.new.self ≡ slice_set now.passes at (decides (looks_at pass n)) =
    ap (λ (p : PartyPass). slice_set c.self.inside.passes.items at p) linked ∙ ap (λ (v : World). slice_set v.passes at (decides (looks_at pass n))) c.self.view_is in
    let inside : pass.bucket < length now.lasts = c.requires.below at pass there in (
      ap (λ (m : ℕ). m + 1) number,
      ticket,
      pushed_world _ now c.self.view_is refl c.requires.sound y inside serial (c.requires.wanted pass there).1 refl refl _ _ lasts _ _ passes _ entries,
    )

pub invariant_of-self-2 : goal.invariant_of-self-2
invariant_of-self-2 c =
    let y : WorldEntry = record { text = string_bytes c.in_ok-text.text; bucket = c.pass.inside.bucket; ticket = c.ticket_word-ticket.result; count = 1; place = place.Linked } in
    let inside = within_read _ c.args.self.now c.self.view_is c.requires.below c.args.at c.requires.pass _ c.index_mut-pass.result.now _ c.index_mut-pass.ensures.value c.pass.view_is in
    kept_link c.self.inside.entries.items c.self.inside.lasts.items c.self.inside.linked.items c.self.invariant y c.index_mut-listed.result.now c.link.new.listed _ (c.len.result + 1) c.args.serial _
    inside c.index_mut-listed.ensures.value c.in_ok-text.ensures.ok.1
    (ap (λ (m : ℕ). m + 1) (c.len.ensures ∙ c.reserve.new.self.ok.0 ∙ ap length c.reserve.ensures.items))
    (c.push_reserved.ensures.items ∙ ap (λ (es : List WorldEntry). es ++ y ∷ []) c.reserve.ensures.items)
