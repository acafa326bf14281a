use Rattle.std.proofs.Common.{◌≡◌, ◌∙◌, ◌∷◌, ◌++◌, ap, arith, codes, sym}
use Rattle.std.proofs.lemmas.List.{append_cancel_left}
use Rattle.table_generator.specs.TableText.{hex_digits}
use Rattle.text_forms.proofs.Cuts.{cut_before, found_first, no_cut, not_found}
use Rattle.table_generator.proofs.HexLemmas.{hex_lacks}
use Rattle.table_generator.proofs.check.atom_of.Goals as goal

pub returns-in_default : goal.returns-in_default
returns-in_default c = λ hash text small is.
    let body = c.in_ok-strip_prefix.field-0.now in
    let parts = c.in_ok-strip_prefix.ensures.cases in
    let front : c.args.line.now ≡ codes "atom " ++ body = parts.1.1 ∙ ap (λ v. codes "atom " ++ v) (sym parts.2) in
    no_cut 32 body (hex_digits 16 hash) text (not_found 32 body (omega arith) c.in_default.ensures.cases) (append_cancel_left (codes "atom ") _ _ (sym front ∙ is))

pub returns-in_default-hash_of : goal.returns-in_default-hash_of
returns-in_default-hash_of c = λ hash text small is.
    let body = c.in_ok-strip_prefix.field-0.now in
    let parts = c.in_ok-strip_prefix.ensures.cases in
    let front : c.args.line.now ≡ codes "atom " ++ body = parts.1.1 ∙ ap (λ v. codes "atom " ++ v) (sym parts.2) in
    let cut = found_first 32 body c.in-Some.digits c.in-Some.text (omega arith) c.in-Some.ensures.cases in
    c.in_default-hash_of.ensures hash small
    (c.as_bytes.ensures.value
    ∙ (cut_before 32 body c.in-Some.digits.now c.in-Some.text.now (hex_digits 16 hash) text cut.0 (hex_lacks 32 16 hash (omega arith)) cut.1
    (append_cancel_left (codes "atom ") _ _ (sym front ∙ is))).0)

pub returns : goal.returns
returns c =
    let body = c.in_ok-strip_prefix.field-0.now in
    let parts = c.in_ok-strip_prefix.ensures.cases in
    let front : c.args.line.now ≡ codes "atom " ++ body = parts.1.1 ∙ ap (λ v. codes "atom " ++ v) (sym parts.2) in
    let cut = found_first 32 body c.in-Some.digits c.in-Some.text (omega arith) c.in-Some.ensures.cases in
    front ∙ ap (λ v. codes "atom " ++ v) (cut.1 ∙ ap (λ v. v ++ (32 ∷ c.in-Some.text.now)) (sym c.as_bytes.ensures.value ∙ c.in-Some-hash_of.ensures))
