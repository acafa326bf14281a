use Rattle.string_cache_c.proofs.WithinLemmas.{within}
use Rattle.string_cache_c.proofs.interning.sc_table_intern.Goals as goal

pub returns-clause-interned : goal.returns-clause-interned
returns-clause-interned c = within _ _ _ c.in-Some.numbered.value c.deref_mut.result.now c.intern-number.new.self c.in-Some.ensures.taken c.deref_mut.ensures.value c.put.ensures c.intern-number.ensures.interned
