-- A well cut text is cut between characters.
use Rattle.std.proofs.Common.{◌≡◌, ℕ, zero, suc, ◌+◌, ◌-◌, ◌<◌, ◌≤◌, List, [], ◌∷◌, length, get_or, take, drop, true, eqb, leb, sym, ap, ◌∙◌, arith, subst}
use Rattle.std.specs.Str.{IsUtf8}
use Rattle.std.proofs.lemmas.Bool.{leb-true, eqb-true}
use Rattle.std.proofs.lemmas.Str.{IsUtf8-append}
use Rattle.std.proofs.Math.Seq.{take-add}
use Rattle.text_forms.proofs.words.TextBytes.{both}
use Rattle.text_forms.specs.Packed.{are_cut}
use borrow.Author.Text.{valid, text_lit}
use lib.Dec.{T}
use Rattle.std.proofs.lemmas.List.{drop-drop}

utf8_of : (bs : List ℕ) → valid bs ≡ true → IsUtf8 bs
utf8_of bs v = text_lit bs (subst T (sym v) tt)

next : (whole : List ℕ) (at to : ℕ) (rest : List ℕ) → drop at whole ≡ rest → at ≤ to → IsUtf8 (take at whole) → valid (take (to - at) rest) ≡ true → IsUtf8 (take to whole)
next whole at to rest is up front v =
    let sum : at + (to - at) ≡ to = omega arith in
    subst (λ (n : ℕ). IsUtf8 (take n whole)) sum (subst IsUtf8 (sym (take-add at (to - at) whole)) (IsUtf8-append (take at whole) (take (to - at) (drop at whole)) front (utf8_of (take (to - at) (drop at whole)) (ap (λ xs. valid (take (to - at) xs)) is ∙ v))))

pub cuts : (whole : List ℕ) (at : ℕ) (spans : List (ℕ × ℕ)) (rest : List ℕ) → drop at whole ≡ rest → IsUtf8 (take at whole) → are_cut at spans rest ≡ true → (i : ℕ) → i < length spans
    → IsUtf8 (take (get_or spans i (0, 0)).0 whole) × IsUtf8 (take (get_or spans i (0, 0)).1 whole)
cuts whole at [] rest is front t i lt = absurd (omega arith)
cuts whole at (span ∷ spans) rest is front t i lt =
    let k : ℕ = span.1 - span.0 in
    let a = both (eqb at span.0) _ t in
    let b = both (leb span.0 span.1) _ a.1 in
    let c = both (eqb (length (take k rest)) k) _ b.1 in
    let d = both (valid (take k rest)) _ c.1 in
    let here : at ≡ span.0 = eqb-true at span.0 a.0 in
    let up : span.0 ≤ span.1 = leb-true span.0 span.1 b.0 in
    let is' : drop span.0 whole ≡ rest = ap (λ n. drop n whole) (sym here) ∙ is in
    let front' : IsUtf8 (take span.0 whole) = subst (λ (n : ℕ). IsUtf8 (take n whole)) here front in
    let after : IsUtf8 (take span.1 whole) = next whole span.0 span.1 rest is' up front' d.0 in
    case i lt front' after (λ j below. cuts whole span.1 spans (drop k rest) ((ap (λ n. drop n whole) (omega arith) ∙ sym (drop-drop k span.0 whole)) ∙ ap (drop k) is') after d.1 j below)
  where
    case : (i : ℕ) → i < suc (length spans) → IsUtf8 (take span.0 whole) → IsUtf8 (take span.1 whole) → ((j : ℕ) → j < length spans → IsUtf8 (take (get_or spans j (0, 0)).0 whole) × IsUtf8 (take (get_or spans j (0, 0)).1 whole))
        → IsUtf8 (take (get_or (span ∷ spans) i (0, 0)).0 whole) × IsUtf8 (take (get_or (span ∷ spans) i (0, 0)).1 whole)
    case zero lt f a more = (f, a)
    case (suc j) lt f a more = more j (omega arith)
