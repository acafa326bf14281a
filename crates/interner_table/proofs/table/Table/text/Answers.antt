use Rattle.interner_table.specs.Kept.{map_of}
use Rattle.interner_table.proofs.calls.HeldWords.{lent-found, lent-same, lent-owned}
use Rattle.interner_table.proofs.table.Table.text.Goals as goal

pub returns-clause-found : goal.returns-clause-found
returns-clause-found g c = lent-found g.S.StaticTables.tables (map_of c.args.self.now) c.args.word c.find_text.result c.find_text.ensures.text

pub returns-clause-same : goal.returns-clause-same
returns-clause-same g c = lent-same g.S.StaticTables.tables (map_of c.args.self.now) c.args.word c.find_text.ensures.sound c.find_text.result c.find_text.ensures.text

pub returns-clause-word : goal.returns-clause-word
returns-clause-word g c = lent-owned g.S.StaticTables.tables (map_of c.args.self.now) c.args.word c.find_text.ensures.sound c.find_text.result c.find_text.ensures.text
