use Rattle.std.proofs.Common.{rules, ◌≡◌, sym, subst}
use Rattle.std.specs.Prelude.{IfOk}
use Rattle.word_counts.specs.WordCounts.{AreWordCounts, counted_texts, word_counts}
use Rattle.word_counts.specs.Words.{words}
use Rattle.word_counts.proofs.WordCountLemmas.{counts_law, if_ok_map}
use Rattle.word_counts.proofs.count.count_named.Goals as goal

pub returns-clause-law : goal.returns-clause-law
returns-clause-law g c =
    let counted : IfOk c.scoped.result (λ counts. counted_texts counts.items ≡ word_counts (words c.args.text.now)) = search rules in
    if_ok_map (λ counts is. subst (AreWordCounts (words c.args.text.now)) (sym is) (counts_law (words c.args.text.now))) c.scoped.result counted
