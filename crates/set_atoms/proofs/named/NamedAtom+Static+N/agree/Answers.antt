use Rattle.std.proofs.Common.{rules, length}
use Rattle.set_atoms.proofs.Words.{words_agree}
use Rattle.set_atoms.proofs.named.NamedAtom+Static+N.agree.Goals as goal

-- one of them isn't dynamic
pub returns-2 : goal.returns-2
returns-2 g c =
    let one = words_agree g.Static.StaticTables.tables (length g.N.SetName.logs) c.self.inside.form c.other.inside.form c.self.invariant.1 c.other.invariant.1 (λ x y p q is is'. search (rules, is, is')) in
    search (rules, one)
