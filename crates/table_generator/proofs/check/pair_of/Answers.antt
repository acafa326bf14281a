use Rattle.std.proofs.Common.{◌≡◌, ◌∙◌, ◌++◌, ap, arith, codes, decimal, sym}
use Rattle.std.proofs.lemmas.List.{append_cancel_left}
use Rattle.text_forms.proofs.Cuts.{cut_before, found_first, no_cut, not_found}
use Rattle.table_generator.proofs.LineLemmas.{decimal_lacks}
use Rattle.table_generator.proofs.check.pair_of.Goals as goal

pub returns-in_default : goal.returns-in_default
returns-in_default c = λ pair p q is.
    let body = c.in_ok-strip_prefix.field-0.now in
    let parts = c.in_ok-strip_prefix.ensures.cases in
    let front : c.args.line.now ≡ codes "disp " ++ body = parts.1.1 ∙ ap (λ v. codes "disp " ++ v) (sym parts.2) in
    no_cut 32 body (decimal pair.0) (decimal pair.1) (not_found 32 body (omega arith) c.in_default.ensures.cases)
    (append_cancel_left (codes "disp ") _ _ (sym front ∙ is))

pub returns-in_default-short_number_of : goal.returns-in_default-short_number_of
returns-in_default-short_number_of c = λ pair p q is.
    let body = c.in_ok-strip_prefix.field-0.now in
    let parts = c.in_ok-strip_prefix.ensures.cases in
    let front : c.args.line.now ≡ codes "disp " ++ body = parts.1.1 ∙ ap (λ v. codes "disp " ++ v) (sym parts.2) in
    let cut = found_first 32 body c.in-Some.first c.in-Some.second (omega arith) c.in-Some.ensures.cases in
    c.in_default-short_number_of.ensures pair.0 p
    (cut_before 32 body c.in-Some.first.now c.in-Some.second.now (decimal pair.0) (decimal pair.1) cut.0 (decimal_lacks 32 pair.0 (omega arith) (omega (arith, p))) cut.1
    (append_cancel_left (codes "disp ") _ _ (sym front ∙ is))).0

pub returns-in_default-short_number_of-2 : goal.returns-in_default-short_number_of-2
returns-in_default-short_number_of-2 c = λ pair p q is.
    let body = c.in_ok-strip_prefix.field-0.now in
    let parts = c.in_ok-strip_prefix.ensures.cases in
    let front : c.args.line.now ≡ codes "disp " ++ body = parts.1.1 ∙ ap (λ v. codes "disp " ++ v) (sym parts.2) in
    let cut = found_first 32 body c.in-Some.first c.in-Some.second (omega arith) c.in-Some.ensures.cases in
    c.in_default-short_number_of-2.ensures pair.1 q
    (cut_before 32 body c.in-Some.first.now c.in-Some.second.now (decimal pair.0) (decimal pair.1) cut.0 (decimal_lacks 32 pair.0 (omega arith) (omega (arith, p))) cut.1
    (append_cancel_left (codes "disp ") _ _ (sym front ∙ is))).1
