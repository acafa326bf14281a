use Rattle.std.proofs.Common.{arith, ◌≡◌, ◌∙◌, ap, length}
use Rattle.atomic_steps.specs.World.{World}
use Rattle.atomic_steps.proofs.lists.Places.{entry_at-found, entry_at-past}
use Rattle.atomic_steps.proofs.steps.state.State.entry_place.Goals as goal

pub returns-then-k-len : goal.returns-then-k-len
returns-then-k-len c =
    let count : c.len.result ≡ length c.args.self.now.entries = c.len.ensures ∙ c.self.inside.entries.ok.0 ∙ ap (λ (w : World). length w.entries) c.self.view_is in
    let number = c.in_ok-k.ensures in
    entry_at-found c.args.self.now c.args.number c.in_ok-k.k (omega (arith, number.0, number.1)) (omega (arith, count, c.if-k-len.true))

pub returns-else-k-len : goal.returns-else-k-len
returns-else-k-len c =
    let count : c.len.result ≡ length c.args.self.now.entries = c.len.ensures ∙ c.self.inside.entries.ok.0 ∙ ap (λ (w : World). length w.entries) c.self.view_is in
    let number = c.in_ok-k.ensures in
    entry_at-past c.args.self.now c.args.number c.in_ok-k.k (omega (arith, number.0, number.1)) (omega (arith, count, c.if-k-len.false))
