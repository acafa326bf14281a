use Rattle.std.proofs.Common.{subst}
use Rattle.named_set.specs.Words.{AreOneToOne, HeldWord}
use Rattle.named_set.proofs.Agreeing.{words_agree}
use Rattle.named_set.proofs.held.HeldCell.agree.Goals as goal

pub returns : goal.returns
returns g c =
    let own = c.self.inside in let other = c.other.inside in
    let agree = words_agree g.Static.StaticTables.tables g.N.SetName.logs own.seen other.seen own.own.cell other.own.cell c.self.invariant c.other.invariant c.meet.ensures c.outlives.ensures c.outlives-2.ensures in
    subst (λ (w : HeldWord). AreOneToOne w.word c.args.other.now.word w.text c.args.other.now.text) c.self.view_is
    (subst (λ (w : HeldWord). AreOneToOne own.own.cell.label.ticket w.word own.own.cell.text w.text) c.other.view_is agree)
