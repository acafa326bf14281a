use Rattle.std.proofs.Common.{Bool, subst}
use Rattle.interner_table.specs.Kept.{map_of}
use Rattle.interner_table.specs.Outcomes.{Given}
use Rattle.interner_table.proofs.calls.Found.{left-held, right-held}
use Rattle.interner_table.proofs.table.Table.give.Goals as goal

-- the word is held
pub returns-clause-given : goal.returns-clause-given
returns-clause-given g c =
    subst (λ (given : Bool). Given g.S.StaticTables.tables c.args.self.now c.args.word given c.release.new.self) (c.release.ensures.held.1 c.requires) c.release.ensures

pub returns-clause-left : goal.returns-clause-left
returns-clause-left g c = left-held g.S.StaticTables.tables (map_of c.args.self.now) (map_of c.release.new.self) c.args.word c.release.ensures.listed

pub returns-clause-right : goal.returns-clause-right
returns-clause-right g c = right-held g.S.StaticTables.tables (map_of c.args.self.now) (map_of c.release.new.self) c.args.word c.release.ensures.listed
