-- When a pair of displacements fits, and when it doesn't.
use Rattle.std.proofs.Common.{◌≡◌, ◌≢◌, ℕ, ◌+◌, ◌<◌, Bool, true, false, List, length, get_or, take, sym, ap, ◌∙◌, arith, length-take}
use Rattle.std.proofs.lemmas.Bool.{false≢true}
use borrow.Author.Count.{below_more}
use Rattle.std.proofs.lemmas.List.{get_or-take, get_or_default}
use Rattle.text_forms.specs.declared.phf.Hashes.{Hashes}
use Rattle.table_generator.specs.Places.{place_by, is_taken, Fits, IsPlaceOf}

module _ (taken : List Bool) (members : List Hashes) (pair : ℕ × ℕ) (i p : ℕ) (d : Hashes) (here : i < length members)
    (is : p ≡ place_by (length taken) pair (get_or members i d)) where
  pub not_free : is_taken taken p ≡ true → Fits taken members pair → ⊥
  not_free there fits = false≢true (sym (fits.free i d here) ∙ ap (is_taken taken) (sym is) ∙ there)

  -- an earlier one has the place
  pub not_apart : IsPlaceOf (length taken) pair p (take i members) → Fits taken members pair → ⊥
  not_apart (k, x, below, there, same) fits =
      let low : k < i = omega (arith, below, length-take i members) in
      let other : get_or members k d ≡ x = get_or_default members k d x (omega (arith, low, here)) ∙ sym (get_or-take i members k x low) ∙ there in
      fits.differ k i d low here (ap (place_by (length taken) pair) other ∙ same ∙ is)

  at : (e : Hashes) → place_by (length taken) pair (get_or members i e) ≡ p
  at e = ap (place_by (length taken) pair) (get_or_default members i e d here) ∙ sym is

  -- one member more
  pub free_more : ((k : ℕ) (e : Hashes) → k < i → is_taken taken (place_by (length taken) pair (get_or members k e)) ≡ false)
      → is_taken taken p ≡ false → (k : ℕ) (e : Hashes) → k < i + 1 → is_taken taken (place_by (length taken) pair (get_or members k e)) ≡ false
  free_more before here_too k e h =
      below_more (λ k. is_taken taken (place_by (length taken) pair (get_or members k e)) ≡ false) i (λ k h. before k e h) (ap (is_taken taken) (at e) ∙ here_too) k h

  pub differ_more : ((a b : ℕ) (e : Hashes) → a < b → b < i → place_by (length taken) pair (get_or members a e) ≢ place_by (length taken) pair (get_or members b e))
      → (IsPlaceOf (length taken) pair p (take i members) → ⊥)
      → (a b : ℕ) (e : Hashes) → a < b → b < i + 1 → place_by (length taken) pair (get_or members a e) ≢ place_by (length taken) pair (get_or members b e)
  differ_more before none a b e low h =
      below_more (λ b. a < b → place_by (length taken) pair (get_or members a e) ≢ place_by (length taken) pair (get_or members b e)) i
      (λ b hb low. before a b e low hb)
      (λ low same. none (
        a,
        get_or members a e,
        omega (arith, low, here, length-take i members),
        get_or-take i members a (get_or members a e) low ∙ get_or_default members a (get_or members a e) e (omega (arith, low, here)),
        same ∙ at e,
      ))
      b h low
