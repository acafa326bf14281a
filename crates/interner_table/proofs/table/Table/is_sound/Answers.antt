use Rattle.std.proofs.Common.{subst}
use Rattle.interner_table.specs.Kept.{Kept, pairs_of, map_of, IsSoundMap}
use Rattle.interner_table.proofs.kept.Tickets.{sound}
use Rattle.interner_table.proofs.table.Table.is_sound.Goals as goal

pub returns : goal.returns
returns g c = subst (λ (kept : Kept). IsSoundMap g.S.StaticTables.tables (map_of kept)) c.self.view_is
    (sound g.S.StaticTables.tables c.self.inside.lasts.items (pairs_of c.self.inside.entries.entries) c.self.inside.tickets.keys c.self.inside.bytes c.self.invariant c.len.ensures.unique)
