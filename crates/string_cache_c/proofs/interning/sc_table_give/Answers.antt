use Rattle.string_cache_c.proofs.WithinLemmas.{within}
use Rattle.string_cache_c.proofs.interning.sc_table_give.Goals as goal

pub returns-clause-given : goal.returns-clause-given
returns-clause-given c = within _ _ _ c.in-Some.numbered.value c.deref_mut.result.now c.give-number.new.self c.in-Some.ensures.taken c.deref_mut.ensures.value c.put.ensures c.give-number.ensures.given
