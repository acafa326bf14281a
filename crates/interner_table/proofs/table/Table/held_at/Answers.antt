use Rattle.std.proofs.Common.{◌∙◌, ap, sym, subst, ◌<◌, ℕ, length}
use Rattle.std.proofs.lemmas.Option.{same_Some}
use Rattle.std.specs.Prelude.{slice_get}
use Rattle.text_forms.specs.Map.{Holding}
use Rattle.interner_table.specs.Kept.{Kept, pairs_of}
use Rattle.interner_table.proofs.kept.Pairs.{value-at, some-pair}
use Rattle.interner_table.proofs.table.Table.held_at.Goals as goal

pub returns-clause-pair : goal.returns-clause-pair
returns-clause-pair g c = λ pair h.
    let v = value-at c.self.inside.entries.entries c.args.at pair (ap (λ (kept : Kept). slice_get kept.pairs c.args.at) c.self.view_is ∙ h) in
    let same = same_Some _ _ (sym v ∙ c.index-held.ensures) in
    same ∙ (λ i. record { ticket = sym c.ticket.ensures i; holders = sym c.holders.ensures i })

pub returns-clause-held : goal.returns-clause-held
returns-clause-held g c =
    let within = subst (λ (kept : Kept). c.args.at < length kept.pairs) (sym c.self.view_is) c.requires in
    let pair = some-pair (pairs_of c.self.inside.entries.entries) c.args.at within in
    let same = same_Some _ _ (sym (value-at c.self.inside.entries.entries c.args.at pair.0 pair.1) ∙ c.index-held.ensures) in
    subst (λ (n : ℕ). 0 < n) (ap (λ (h : Holding). h.holders) same ∙ sym c.holders.ensures) (c.self.invariant.given c.args.at pair.0 pair.1).held
