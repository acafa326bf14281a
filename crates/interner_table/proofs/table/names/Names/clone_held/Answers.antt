use Rattle.std.proofs.Common.{subst, ℕ, Ok, Option, Some}
use Rattle.interner_table.specs.Outcomes.{Cloned}
use Rattle.interner_table.proofs.table.names.Names.clone_held.Goals as goal

-- the clone's word is the name's
pub returns-in-Ok-Some-clause-cloned : goal.returns-in-Ok-Some-clause-cloned
returns-in-Ok-Some-clause-cloned g c =
    let t = g.S.StaticTables.tables in
    let old = c.args.self.now.table in
    let word = c.args.name.word in
    let new = c.clone_held.new.self in
    let done = subst (λ (o : Option ℕ). Cloned t old word (Ok o) new) c.in-Ok-Some.field-0-is c.in-Ok-Some.ensures.cloned in
    subst (λ (own : ℕ). Cloned t old word (Ok (Some own)) new) done.same done
