use Rattle.std.proofs.Common.{◌∙◌, ap, length, subst, sym}
use Rattle.named_set.specs.Words.{HeldWord, IsTicketOf}
use Rattle.named_set.proofs.held.Held.into_parts.Goals as goal

pub returns-clause-word : goal.returns-clause-word
returns-clause-word g c = c.self.invariant.0 ∙ ap (λ (w : HeldWord). w.word) c.self.view_is

pub returns-clause-ticket : goal.returns-clause-ticket
returns-clause-ticket g c =
    let of = IsTicketOf g.Static.StaticTables.tables (length g.N.SetName.logs) in
    subst (λ (w : HeldWord). of w.text c.self.inside.word) c.self.view_is (subst (λ word. of c.self.inside.cell.text word) (sym c.self.invariant.0) c.self.invariant.1)
