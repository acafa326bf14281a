use Rattle.std.proofs.Common.{subst}
use Rattle.std.specs.List.{IsDistinct}
use Rattle.std.specs.Map.{keys_of}
use Rattle.std.specs.Str.{bytes_eq}
use Rattle.interner_table.specs.Kept.{Kept}
use Rattle.interner_table.proofs.kept.Bytes.{distinct-texts}
use Rattle.interner_table.proofs.table.Table.entries.Goals as goal

pub returns-clause-distinct : goal.returns-clause-distinct
returns-clause-distinct g c = subst (λ (kept : Kept). IsDistinct bytes_eq (keys_of kept.pairs)) c.self.view_is (distinct-texts c.self.inside.entries.entries c.len.ensures.unique)
