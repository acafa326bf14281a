use Rattle.std.proofs.Common.{◌≡◌, ◌∙◌, ap, sym, subst, Option, ℕ, None}
use Rattle.std.specs.Prelude.{MatchOption, ◌==◌}
use Rattle.std.specs.List.{position}
use Rattle.atomic_steps.specs.World.{World, PartyPass}
use Rattle.atomic_steps.specs.Steps.{pass_of}
use Rattle.atomic_steps.specs.Places.{PassAt}
use Rattle.atomic_steps.proofs.lists.Places.{place_of}
use Rattle.atomic_steps.proofs.steps.state.State.pass_place.Goals as goal

pub returns : goal.returns
returns c =
    let party = c.args.party in
    let here : c.place_of.result ≡ position (λ (pass : PartyPass). pass.party == party) c.args.self.now.passes =
    c.place_of.ensures ∙ ap (position (λ (pass : PartyPass). pass.party == party)) (c.deref.ensures.value ∙ ap (λ (w : World). w.passes) c.self.view_is) in
    subst (λ (o : Option ℕ). MatchOption o (pass_of c.args.self.now party ≡ None) (λ at. PassAt c.args.self.now party at)) (sym here) (place_of c.args.self.now party)
