use Rattle.std.proofs.Common.{◌∙◌, arith}
use Rattle.text_forms.proofs.Cuts.{found_first, no_cut, not_found}
use Rattle.table_generator.proofs.LineLemmas.{disp_flat, disp_lacks, disp_words, words_are}
use Rattle.table_generator.proofs.check.pair_and_rest.Goals as goal

pub returns-in_default : goal.returns-in_default
returns-in_default c = λ pair rest p q is.
    no_cut 10 c.args.text.now (disp_words pair) rest (not_found 10 c.args.text.now (omega arith) c.in_default.ensures.cases) (is ∙ disp_flat pair rest)

pub returns-in_default-pair_of : goal.returns-in_default-pair_of
returns-in_default-pair_of c = λ pair rest p q is.
    let cut = found_first 10 c.args.text.now c.in-Some.line c.in-Some.rest (omega arith) c.in-Some.ensures.cases in
    c.in_default-pair_of.ensures pair p q (words_are c.args.text.now c.in-Some.line.now c.in-Some.rest.now (disp_words pair) rest cut.0 cut.1 (disp_lacks pair p q) (is ∙ disp_flat pair rest)).0
