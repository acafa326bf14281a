-- Texts that lie in one text.
use Rattle.std.proofs.Common.{◌≡◌, ℕ, zero, suc, ◌+◌, ◌-◌, ◌<◌, ◌≤◌, List, [], ◌∷◌, length, get_or, take, drop, slice_range, true, eqb, leb, refl, sym, subst, ap, ◌∙◌, arith, min}
use Rattle.std.proofs.lemmas.List.{length-take, length-drop, get_or-map, length-map}
use Rattle.std.specs.Str.{IsCharBoundary, IsUtf8}
use Rattle.std.proofs.lemmas.Str.{IsUtf8-nil, IsCharBoundary-from_take}
use Rattle.text_forms.proofs.CutLemmas.{cuts}
use Rattle.std.proofs.lemmas.Bool.{leb-true, eqb-true}
use Rattle.text_forms.proofs.words.TextBytes.{both}
use Rattle.text_forms.specs.Tables.{Tables, text_at}
use Rattle.text_forms.specs.Packed.{packed, are_cut}
use borrow.Author.Text.{valid}

-- a text begins and ends there
pub record IsSpan (whole : List ℕ) (from to : ℕ) : Type 0 where
  pub ordered : from ≤ to
  pub begins : IsCharBoundary whole from
  pub ends : IsCharBoundary whole to

-- each span of a well cut text lies in it
pub within : (at : ℕ) (spans : List (ℕ × ℕ)) (rest : List ℕ) (n : ℕ) → at + length rest ≡ n → are_cut at spans rest ≡ true → (i : ℕ) → i < length spans
    → ((get_or spans i (0, 0)).0 ≤ (get_or spans i (0, 0)).1) × ((get_or spans i (0, 0)).1 ≤ n)
within at [] rest n e t i lt = absurd (omega arith)
within at (span ∷ spans) rest n e t zero lt =
    let k : ℕ = span.1 - span.0 in
    let a = both (eqb at span.0) _ t in
    let b = both (leb span.0 span.1) _ a.1 in
    let c = both (eqb (length (take k rest)) k) _ b.1 in
    let up : span.0 ≤ span.1 = leb-true span.0 span.1 b.0 in
    let here : at ≡ span.0 = eqb-true at span.0 a.0 in
    let few : min k (length rest) ≡ k = sym (length-take k rest) ∙ eqb-true (length (take k rest)) k c.0 in
    (up, omega arith)
within at (span ∷ spans) rest n e t (suc i) lt =
    let k : ℕ = span.1 - span.0 in
    let a = both (eqb at span.0) _ t in
    let b = both (leb span.0 span.1) _ a.1 in
    let c = both (eqb (length (take k rest)) k) _ b.1 in
    let d = both (valid (take k rest)) _ c.1 in
    let up : span.0 ≤ span.1 = leb-true span.0 span.1 b.0 in
    let here : at ≡ span.0 = eqb-true at span.0 a.0 in
    let few : min k (length rest) ≡ k = sym (length-take k rest) ∙ eqb-true (length (take k rest)) k c.0 in
    let left : length (drop k rest) ≡ length rest - k = length-drop k rest in
    within span.1 spans (drop k rest) n (omega arith) d.1 i (omega arith)

module _ (t : Tables) (key : ℕ) (disps : List (ℕ × ℕ)) (whole : List ℕ) (spans : List (ℕ × ℕ)) (hashes : List ℕ) (is : packed key disps whole spans hashes ≡ t) where
  -- the texts are as many as the spans
  pub count : length t.atoms ≡ length spans
  count = sym (ap (λ u. length u.atoms) is) ∙ length-map spans (λ (x : ℕ × ℕ). slice_range whole x.0 x.1)

  -- the text at an index is what its span cuts out
  pub stands : (i : ℕ) (d : ℕ × ℕ) → i < length t.atoms → text_at t i ≡ slice_range whole (get_or spans i d).0 (get_or spans i d).1
  stands i d below = sym (ap (λ u. text_at u i) is) ∙ get_or-map (λ (x : ℕ × ℕ). slice_range whole x.0 x.1) spans i d [] (subst (λ n. i < n) count below)

  -- a span of a well cut text begins and ends between characters
  pub cut_at : IsUtf8 whole → are_cut 0 spans whole ≡ true → (i : ℕ) → i < length t.atoms → IsSpan whole (get_or spans i (0, 0)).0 (get_or spans i (0, 0)).1
  cut_at utf8 cut i below =
      let there : i < length spans = subst (λ n. i < n) count below in
      let inside = within 0 spans whole (length whole) (omega arith) cut i there in
      let fronts = cuts whole 0 spans whole refl IsUtf8-nil cut i there in
      record {
        ordered = inside.0;
        begins = IsCharBoundary-from_take whole (get_or spans i (0, 0)).0 utf8 (omega (arith, inside)) fronts.0;
        ends = IsCharBoundary-from_take whole (get_or spans i (0, 0)).1 utf8 inside.1 fronts.1;
      }
