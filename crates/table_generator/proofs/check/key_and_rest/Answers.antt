use Rattle.std.proofs.Common.{◌∙◌, arith}
use Rattle.text_forms.proofs.Cuts.{found_first, no_cut, not_found}
use Rattle.table_generator.proofs.LineLemmas.{key_flat, key_lacks, key_words, words_are}
use Rattle.table_generator.proofs.check.key_and_rest.Goals as goal

pub returns-in_default : goal.returns-in_default
returns-in_default c = λ key rest small is.
    no_cut 10 c.args.text.now (key_words key) rest (not_found 10 c.args.text.now (omega arith) c.in_default.ensures.cases) (is ∙ key_flat key rest)

pub returns-in_default-number_after : goal.returns-in_default-number_after
returns-in_default-number_after c = λ key rest small is.
    let cut = found_first 10 c.args.text.now c.in-Some.line c.in-Some.rest (omega arith) c.in-Some.ensures.cases in
    c.in_default-number_after.ensures key small (words_are c.args.text.now c.in-Some.line.now c.in-Some.rest.now (key_words key) rest cut.0 cut.1 (key_lacks key small) (is ∙ key_flat key rest)).0
