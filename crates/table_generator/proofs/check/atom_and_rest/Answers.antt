use Rattle.std.proofs.Common.{◌∙◌, ◌∷◌, ◌++◌, ap, arith, sym}
use Rattle.text_forms.proofs.Cuts.{found_first, no_cut, not_found}
use Rattle.table_generator.proofs.LineLemmas.{atom_flat, atom_lacks, atom_words, text_lacks, words_are}
use Rattle.table_generator.proofs.check.atom_and_rest.Goals as goal

pub returns-in_default : goal.returns-in_default
returns-in_default c = λ hash atom rest small none is.
    no_cut 10 c.args.text.now (atom_words hash atom) rest (not_found 10 c.args.text.now (omega arith) c.in_default.ensures.cases) (is ∙ atom_flat hash atom rest)

pub returns-in_default-atom_of : goal.returns-in_default-atom_of
returns-in_default-atom_of c = λ hash atom rest small none is.
    let cut = found_first 10 c.args.text.now c.in-Some.line c.in-Some.rest (omega arith) c.in-Some.ensures.cases in
    c.in_default-atom_of.ensures hash atom small (words_are c.args.text.now c.in-Some.line.now c.in-Some.rest.now (atom_words hash atom) rest cut.0 cut.1 (atom_lacks hash atom none) (is ∙ atom_flat hash atom rest)).0

pub returns : goal.returns
returns c =
    let cut = found_first 10 c.args.text.now c.in-Some.line c.in-Some.rest (omega arith) c.in-Some.ensures.cases in
    let hash = c.in-Some-atom_of.hash in
    let atom = c.in-Some-atom_of.atom.now in (
      text_lacks c.in-Some.line.now atom hash cut.0 c.in-Some-atom_of.ensures,
      cut.1 ∙ ap (λ v. v ++ (10 ∷ c.in-Some.rest.now)) c.in-Some-atom_of.ensures ∙ sym (atom_flat hash atom c.in-Some.rest.now),
    )
