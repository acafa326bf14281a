use Rattle.std.proofs.Common.{ap, sym, subst, ◌≡◌, ◌<◌, ◌∙◌, ◌++◌, append-nil, drop, length, slice_index, true}
use Rattle.std.specs.Char.{is_whitespace}
use Rattle.word_counts.specs.Words.{words}
use Rattle.word_counts.proofs.WordLemmas.{words_joined, words_of_nothing}
use Rattle.word_counts.proofs.count.parts.cut_off.Goals as goal

pub returns-clause-words : goal.returns-clause-words
returns-clause-words c =
    let cut = c.in-Some.cut in
    let text = c.args.text.now in
    let is = c.as_bytes.ensures.value in
    let within = subst (λ t. cut < length t) is c.in-Some.ensures.within in
    let ascii = subst (λ t. slice_index t cut < 128) is c.in-Some.ensures.ascii in
    let white = subst (λ t. is_whitespace (slice_index t cut) ≡ true) is c.in-Some.ensures.white in
    words_joined text cut c.utf8.text within ascii white ∙ ap (λ t. words t ++ words (drop cut text)) (sym c.split_at.ensures.front)
    ∙ ap (λ t. words c.split_at.result.0.now ++ words t) (sym c.split_at.ensures.back)

pub returns-in_default-clause-words : goal.returns-in_default-clause-words
returns-in_default-clause-words c = sym (append-nil (words c.args.text.now)) ∙ ap (λ l. words c.args.text.now ++ l) (sym words_of_nothing)
