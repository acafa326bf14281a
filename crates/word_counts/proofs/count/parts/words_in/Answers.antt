use Rattle.std.proofs.Common.{sym, ◌∙◌}
use Rattle.std.specs.Str.{chars}
use Rattle.std.proofs.lemmas.Str.{encodes-chars}
use Rattle.word_counts.proofs.CutWords.{words_number}
use Rattle.word_counts.proofs.count.parts.words_in.Goals as goal

pub returns : goal.returns
returns c =
    let ran = c.count.ensures.ran in
    let text = c.args.text.now in
    ran.2 ∙ words_number ran.0 _ _ (chars text) (encodes-chars text c.utf8.text ∙ sym c.split_whitespace.ensures.rest) ran.1.1.1 ran.1.1.2.1
