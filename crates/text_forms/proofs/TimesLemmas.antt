-- How often a number stands in a list with one number more.
use Rattle.std.proofs.Common.{◌≡◌, ℕ, ◌+◌, false, cond, List, [], ◌∷◌, ◌++◌, refl, sym, ap, ◌∙◌, arith}
use Rattle.std.specs.Prelude.{◌==◌}
use Rattle.std.proofs.lemmas.Bool.{eq-eqb}
use Rattle.std.proofs.lemmas.List.Sums.{sum_by-cons}
use Rattle.text_forms.specs.Times.{times}

pub times-cons : (t x : ℕ) (xs : List ℕ) → times t (x ∷ xs) ≡ cond (x == t) 1 0 + times t xs
times-cons t x xs = sum_by-cons (λ y. cond (y == t) 1 0) x xs

times-middle : (t x : ℕ) (before after : List ℕ) → times t (before ++ x ∷ after) ≡ cond (x == t) 1 0 + times t (before ++ after)
times-middle t x [] after = times-cons t x after
times-middle t x (y ∷ before) after =
    let rest = times-middle t x before after in
    let whole = times-cons t y (before ++ x ∷ after) in
    let less = times-cons t y (before ++ after) in
    omega (arith, rest, whole, less)

-- the number itself
pub times-same : (t : ℕ) (before after : List ℕ) → (1 + times t (before ++ after)) ≡ times t (before ++ t ∷ after)
times-same t before after = sym (times-middle t t before after ∙ ap (λ b. cond b 1 0 + times t (before ++ after)) (eq-eqb t t refl))

-- another one
pub times-other : (t x : ℕ) (before after : List ℕ) → (x == t) ≡ false → times t (before ++ x ∷ after) ≡ times t (before ++ after)
times-other t x before after apart = times-middle t x before after ∙ ap (λ b. cond b 1 0 + times t (before ++ after)) apart ∙ omega arith
