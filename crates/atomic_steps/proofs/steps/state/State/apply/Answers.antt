use Rattle.atomic_steps.proofs.worlds.Apart.{all_within}
use Rattle.atomic_steps.proofs.rows.AtEntries.{at_tables, always_at_tables}
use Rattle.atomic_steps.proofs.steps.state.State.apply.Goals as goal

pub unlink-requires : goal.unlink-requires
unlink-requires g c = all_within g.S.StaticTables.tables c.args.self.now c.requires

pub leave-requires : goal.leave-requires
leave-requires g c = all_within g.S.StaticTables.tables c.args.self.now c.requires

pub returns-in-TakeSweep-clause-ok : goal.returns-in-TakeSweep-clause-ok
returns-in-TakeSweep-clause-ok g c = at_tables g.S.StaticTables.tables c.args.self.now c.args.party _ _ _ c.in-TakeSweep.is c.take_sweep.result c.take_sweep.ensures.ok

pub returns-in-Add-clause-ok : goal.returns-in-Add-clause-ok
returns-in-Add-clause-ok g c = at_tables g.S.StaticTables.tables c.args.self.now c.args.party _ _ _ c.in-Add.is c.add.result c.add.ensures.ok

pub returns-in-Link-clause-ok : goal.returns-in-Link-clause-ok
returns-in-Link-clause-ok g c = at_tables g.S.StaticTables.tables c.args.self.now c.args.party _ _ _ c.in-Link.is c.link.result c.link.ensures.ok

pub returns-in-Unlink-clause-ok : goal.returns-in-Unlink-clause-ok
returns-in-Unlink-clause-ok g c = at_tables g.S.StaticTables.tables c.args.self.now c.args.party _ _ _ c.in-Unlink.is c.unlink.result c.unlink.ensures.ok

pub returns-in-Clone-clause-ok : goal.returns-in-Clone-clause-ok
returns-in-Clone-clause-ok g c = always_at_tables g.S.StaticTables.tables c.args.self.now c.args.party _ _ _ c.in-Clone.is c.clone_entry.result (λ t. c.clone_entry.ensures t c.args.party)

pub returns-in-Give-clause-ok : goal.returns-in-Give-clause-ok
returns-in-Give-clause-ok g c = always_at_tables g.S.StaticTables.tables c.args.self.now c.args.party _ _ _ c.in-Give.is c.give.result (λ t. c.give.ensures t c.args.party)

pub returns-in-Free-clause-ok : goal.returns-in-Free-clause-ok
returns-in-Free-clause-ok g c = always_at_tables g.S.StaticTables.tables c.args.self.now c.args.party _ _ _ c.in-Free.is c.free.result c.free.ensures

pub returns-in-Leave-clause-ok : goal.returns-in-Leave-clause-ok
returns-in-Leave-clause-ok g c = always_at_tables g.S.StaticTables.tables c.args.self.now c.args.party _ _ _ c.in-Leave.is c.leave.result c.leave.ensures
