use Rattle.std.proofs.Common.{◌≡◌, ◌∙◌, ap, ℕ, Some}
use Rattle.std.specs.Option.{option_map}
use Rattle.atomic_steps.specs.World.{WorldEntry, World}
use Rattle.atomic_steps.specs.Steps.{entry_at}
use Rattle.atomic_steps.proofs.runs.Loop.{unlinked_zero}
use Rattle.atomic_steps.proofs.steps.World.count.Goals as goal

pub returns-clause-unlinked : goal.returns-clause-unlinked
returns-clause-unlinked g c = λ x there gone.
    let w = c.self.inside.state in
    let here : entry_at w.entries c.args.entry ≡ Some x = ap (λ (w : World). entry_at w.entries c.args.entry) c.self.view_is ∙ there in
    c.count.ensures ∙ ap (option_map (λ (e : WorldEntry). e.count)) here
    ∙ ap (λ (n : ℕ). Some n) (unlinked_zero g.S.StaticTables.tables w c.self.invariant c.args.entry x here gone)
