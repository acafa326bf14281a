use Rattle.std.proofs.lemmas.Iterator.Adapters.{fact_from_collect}
use Rattle.std.proofs.lemmas.Iterator.Consumers.{YieldsList-from_rest}
use Rattle.std.specs.BTreeMap.{IsFromIterResult}
use Rattle.std.specs.HashMap.{values}
use Rattle.word_counts.proofs.WordCountLemmas.{by_texts}
use Rattle.word_counts.proofs.count.tally.in_order.Goals as goal

pub returns : goal.returns
returns g c = fact_from_collect (IsFromIterResult by_texts) c.collect.result c.collect.ensures.ran (YieldsList-from_rest (values c.args.tally) c.into_values.ensures.rest)
