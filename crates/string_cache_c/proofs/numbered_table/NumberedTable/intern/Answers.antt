use Rattle.std.proofs.Common.{inl, refl, subst, List, Ok, ℕ}
use Rattle.interner_table.specs.Outcomes.{Interned}
use Rattle.interner_table.specs.Tables.{empty_tables}
use Rattle.string_cache_c.proofs.numbered_table.NumberedTable.intern.Goals as goal

-- the text is the bytes, which are UTF-8
pub returns-in-Ok-clause-interned : goal.returns-in-Ok-clause-interned
returns-in-Ok-clause-interned c =
    let done = subst (λ (text : List ℕ). Interned empty_tables c.args.self.now.table text (Ok c.in-Ok.own) c.intern.new.self) c.in-Some.ensures.0 c.in-Ok.ensures.interned in
    inl (c.in-Some.ensures.1, Ok c.in-Ok.own, done, (refl, refl))
