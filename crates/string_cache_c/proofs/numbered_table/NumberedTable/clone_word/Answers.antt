use Rattle.std.proofs.Common.{inl, refl, subst, sym, ℕ, Ok, Option}
use Rattle.interner_table.specs.Outcomes.{Cloned}
use Rattle.interner_table.specs.Tables.{empty_tables}
use Rattle.string_cache_c.proofs.numbered_table.NumberedTable.clone_word.Goals as goal

-- the word that comes back is the same
pub returns-in-Ok-Some-clause-cloned : goal.returns-in-Ok-Some-clause-cloned
returns-in-Ok-Some-clause-cloned c =
    let done = subst (λ (o : Option ℕ). Cloned empty_tables c.args.self.now.table c.args.word (Ok o) c.clone_held.new.self) c.in-Ok-Some.field-0-is c.in-Ok-Some.ensures.cloned in
    inl (done.held.0 refl, Ok _, done, (refl, sym done.same))
