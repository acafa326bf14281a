use Rattle.std.proofs.Common.{ap, sym, ◌∙◌}
use Rattle.word_counts.specs.Parts.{words_of_parts, words_of_sections}
use Rattle.word_counts.specs.Words.{words}
use Rattle.word_counts.proofs.PartLemmas.{one_part, pieces_whole}
use Rattle.word_counts.proofs.WordCountLemmas.{if_ok_both}
use Rattle.word_counts.proofs.WordLemmas.{length-words-le}
use Rattle.word_counts.proofs.count.parts.parts.Goals as goal

pub returns-then-n-eq1-clause-words : goal.returns-then-n-eq1-clause-words
returns-then-n-eq1-clause-words g c = ap words_of_parts c.in_ok-vec.ensures.items ∙ one_part (words c.args.text.now) _ (length-words-le c.args.text.now c.utf8.text)

pub returns-clause-words : goal.returns-clause-words
returns-clause-words g c =
    let ws = words_of_sections c.deref.result.now in
    if_ok_both (λ parts number ends. pieces_whole ws c.args.n parts.items c.requires (sym parts.ok.0 ∙ number) ends ∙ ap words_of_sections c.deref.ensures.value ∙ c.in_ok-sections.ensures.words) c.pieces.result c.pieces.ensures.len c.pieces.ensures.ends
