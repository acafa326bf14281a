use Rattle.std.proofs.Common.{arith, ap, decimal, ◌∙◌, ◌++◌, ◌∷◌}
use Rattle.text_forms.proofs.Cuts.{found_first, no_cut, not_found}
use Rattle.replay_script.proofs.CutLemmas.{cut_number}
use Rattle.replay_script.proofs.line.number_and_rest.Goals as goal

pub returns-in_default : goal.returns-in_default
returns-in_default c = λ n rest small. no_cut 32 c.args.text.now (decimal n) rest (not_found 32 c.args.text.now (omega arith) c.in_default.ensures.cases)

pub returns-in_default-number_of : goal.returns-in_default-number_of
returns-in_default-number_of c = λ n rest small e.
    let cut = found_first 32 c.args.text.now c.in-Some.front c.in-Some.rest (omega arith) c.in-Some.ensures.cases in
    c.in_default-number_of.ensures n small (cut_number c.args.text.now c.in-Some.front.now c.in-Some.rest.now cut.0 cut.1 n rest small e).0

pub returns : goal.returns
returns c =
    let cut = found_first 32 c.args.text.now c.in-Some.front c.in-Some.rest (omega arith) c.in-Some.ensures.cases in
    (omega arith, cut.1 ∙ ap (λ v. v ++ (32 ∷ c.in-Some.rest.now)) c.in-Some-number_of.ensures)
