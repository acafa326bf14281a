use Rattle.std.proofs.Common.{◌≡◌, ◌∙◌, ap, sym, Option, None, Some, List, ℕ, false, String, Global}
use Rattle.std.specs.Prelude.{slice_get}
use Rattle.std.specs.Option.{option_map, option_map_or}
use Rattle.std.specs.String.{string_bytes}
use Rattle.atomic_steps.specs.World.{PartyPass, World}
use Rattle.atomic_steps.specs.Steps.{all_found_dying}
use Rattle.atomic_steps.proofs.lists.Facts.{get_or_at}
use Rattle.atomic_steps.proofs.steps.state.State.may_link.Goals as goal

abbrev text_of : Option (String Global) → Option (List ℕ)
text_of wanted = option_map (λ text. string_bytes text) wanted

pub returns-in-None : goal.returns-in-None
returns-in-None c = λ pass there.
    let at = c.args.at in
    let item : c.index-pass.result.now ≡ pass = c.index-pass.ensures ∙ get_or_at c.self.inside.passes.items at _ pass (ap (λ (v : World). slice_get v.passes at) c.self.view_is ∙ there) in
    let wanted : pass.wanted ≡ None = ap (λ (p : PartyPass). p.wanted) (sym (c.pass.view_is ∙ item)) ∙ ap text_of c.in-None.is in
    sym (ap (λ (o : Option (List ℕ)). option_map_or (λ text. all_found_dying c.args.self.now pass text) o false) wanted)

pub returns-in-Some : goal.returns-in-Some
returns-in-Some c = λ pass there.
    let at = c.args.at in
    let item : c.index-pass.result.now ≡ pass = c.index-pass.ensures ∙ get_or_at c.self.inside.passes.items at _ pass (ap (λ (v : World). slice_get v.passes at) c.self.view_is ∙ there) in
    let wanted : pass.wanted ≡ Some (string_bytes c.in-Some.text) = ap (λ (p : PartyPass). p.wanted) (sym (c.pass.view_is ∙ item)) ∙ ap text_of c.in-Some.is in
    c.all_dying.ensures pass there ∙ ap (λ (text : List ℕ). all_found_dying c.args.self.now pass text) c.as_str.ensures.value
    ∙ sym (ap (λ (o : Option (List ℕ)). option_map_or (λ text. all_found_dying c.args.self.now pass text) o false) wanted)

pub all_dying-requires-clause-placed : goal.all_dying-requires-clause-placed
all_dying-requires-clause-placed c = λ pass k entry there here is.
    let at = c.args.at in
    let item : c.index-pass.result.now ≡ pass = c.index-pass.ensures ∙ get_or_at c.self.inside.passes.items at _ pass (ap (λ (v : World). slice_get v.passes at) c.self.view_is ∙ there) in
    let wanted : pass.wanted ≡ Some (string_bytes c.in-Some.text) = ap (λ (p : PartyPass). p.wanted) (sym (c.pass.view_is ∙ item)) ∙ ap text_of c.in-Some.is in
    c.requires.placed pass (string_bytes c.in-Some.text) k entry there wanted here (is ∙ c.as_str.ensures.value)
