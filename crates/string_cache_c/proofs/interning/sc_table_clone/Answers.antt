use Rattle.string_cache_c.proofs.WithinLemmas.{within}
use Rattle.string_cache_c.proofs.interning.sc_table_clone.Goals as goal

pub returns-clause-cloned : goal.returns-clause-cloned
returns-clause-cloned c = within _ _ _ c.in-Some.numbered.value c.deref_mut.result.now c.clone_word-number.new.self c.in-Some.ensures.taken c.deref_mut.ensures.value c.put.ensures c.clone_word-number.ensures.cloned
