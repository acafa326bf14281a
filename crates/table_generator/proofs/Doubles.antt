-- Equal texts in a list, and in any other order of it.
use Rattle.std.proofs.Common.{◌≡◌, ◌≢◌, ℕ, ◌+◌, ◌<◌, ◌≤◌, ◌⊎◌, true, false, List, [], length, map, get_or, sym, refl, ap, ◌∙◌, arith, inl, inr, eq-eqb}
use mathlib.Core.Logic.{⊎_elim}
use Rattle.std.specs.Cmp.Lexicographic.{bytes_decides}
use Rattle.std.specs.List.{swap, AllPairs}
use Rattle.std.specs.Prelude.{◌&&◌}
use Rattle.std.specs.Str.{bytes_eq}
use lib.Dec.{eqb}
use Rattle.std.specs.List.Sorted.{IsPermutation}
use Rattle.std.proofs.lemmas.Bool.{false≢true, cases_lt, cases_eq}
use Rattle.std.proofs.lemmas.List.{get_or-map, get_or_default, length-map}
use Rattle.std.proofs.lemmas.List.Edits.{Swapped, swapped_from_swap, length-swap}
use Rattle.std.proofs.lemmas.List.Sorted.{IsPermutation-keeps}
use Rattle.text_forms.specs.declared.phf.Hashes.{Hashes}
use Rattle.table_generator.specs.Generated.{HasDouble, HasEarlier}
use Rattle.table_generator.specs.Grouped.{pair_of, AreGrouped}

-- two places that differ and have one text
double_at : (texts : List (List ℕ)) (i j : ℕ) → i ≢ j → i < length texts → j < length texts → get_or texts i [] ≡ get_or texts j [] → HasDouble texts
double_at texts i j other low high same = ⊎_elim
    (λ before. (i, j, before, high, same))
    (λ after. (j, i, omega (arith, after, other), low, sym same))
    (cases_lt i j)

-- where the element at k stands once those at a and b are in each other's place
record GoesTo (f g : ℕ → List ℕ) (a b k : ℕ) : Type 0 where
  pub at : ℕ
  pub same : g at ≡ f k
  pub case : ((k ≡ a) × (at ≡ b)) ⊎ ((k ≢ a) × ((k ≡ b) × (at ≡ a) ⊎ (k ≢ b) × (at ≡ k)))

goes_to : (f g : ℕ → List ℕ) (a b k : ℕ) → Swapped f g a b → GoesTo f g a b k
goes_to f g a b k s = ⊎_elim
    (λ first. record { at = b; same = s.1 ∙ ap f (sym first); case = inl (first, refl) })
    (λ no. ⊎_elim
    (λ second. record { at = a; same = s.0 ∙ ap f (sym second); case = inr (no, inl (second, refl)) })
    (λ none. record { at = k; same = s.2 k no none; case = inr (no, inr (none, refl)) })
    (cases_eq k b))
    (cases_eq k a)

swapped_double : (texts : List (List ℕ)) (a b : ℕ) → a < length texts → b < length texts → HasDouble texts → HasDouble (swap texts a b)
swapped_double texts a b low high (i, j, before, below, same) =
    let count = length-swap texts a b in
    let s = swapped_from_swap texts (swap texts a b) a b [] low high refl in
    let p = goes_to (λ k. get_or texts k []) (λ k. get_or (swap texts a b) k []) a b i s in
    let q = goes_to (λ k. get_or texts k []) (λ k. get_or (swap texts a b) k []) a b j s in
    double_at (swap texts a b) p.at q.at (λ one. grind (arith, one, before, p.case, q.case)) (grind (arith, count, low, high, before, below, p.case)) (grind (arith, count, low, high, below, q.case))
    (p.same ∙ same ∙ sym q.same)

-- texts of which two are equal have two that are in any other order
pub double_permuted : (texts others : List (List ℕ)) → IsPermutation texts others → HasDouble texts → HasDouble others
double_permuted texts others moved double = IsPermutation-keeps texts HasDouble double swapped_double others moved

-- hashes that are told apart by `==` differ
unequal : (h k : Hashes) → false ≡ (eqb h.g k.g && (eqb h.f1 k.f1 && eqb h.f2 k.f2)) → h ≡ k → ⊥
unequal h k told same = false≢true (told ∙ ap (λ (v : Hashes). eqb v.g k.g && (eqb v.f1 k.f1 && eqb v.f2 k.f2)) same ∙ itself)
  where
    itself : (eqb k.g k.g && (eqb k.f1 k.f1 && eqb k.f2 k.f2)) ≡ true
    itself =
        let first : eqb k.g k.g ≡ true = eq-eqb k.g k.g refl in
        let second : eqb k.f1 k.f1 ≡ true = eq-eqb k.f1 k.f1 refl in
        let third : eqb k.f2 k.f2 ≡ true = eq-eqb k.f2 k.f2 refl in
        rw (first, second, third) refl

-- ---- texts beside their hashes, those of one pair side by side

module _ {X : Type 0} (text : X → List ℕ) (hashes : X → Hashes) (items : List X) (at index : ℕ) (d e : X) (low : at < index) (within : index < length items) where
  earlier_text : get_or (map text items) at [] ≡ text (get_or items at d)
  earlier_text = get_or-map text items at d [] (omega (arith, low, within))

  own_text : get_or (map text items) index [] ≡ text (get_or items index e)
  own_text = get_or-map text items index e [] within

  pub repeats_at : bytes_eq (text (get_or items at d)) (text (get_or items index e)) ≡ true → HasEarlier (map text items) index
  repeats_at b = (at, low, earlier_text ∙ (bytes_decides (text (get_or items at d)) (text (get_or items index e))).0 b ∙ sym own_text)

  pub differs_by_text : bytes_eq (text (get_or items at d)) (text (get_or items index e)) ≡ false → get_or (map text items) at [] ≡ get_or (map text items) index [] → ⊥
  differs_by_text b same = false≢true (sym b ∙ (bytes_decides (text (get_or items at d)) (text (get_or items index e))).1 (sym earlier_text ∙ same ∙ own_text))

  -- equal texts have equal hashes
  alike_at : AllPairs (λ x y. text x ≡ text y → hashes x ≡ hashes y) items → get_or (map text items) at [] ≡ get_or (map text items) index [] → hashes (get_or items at d) ≡ hashes (get_or items index e)
  alike_at alike same =
      let first = get_or_default items at d e (omega (arith, low, within)) in
      ap hashes first ∙ alike at index e low within (ap text (sym first) ∙ sym earlier_text ∙ same ∙ own_text)

  pub differs_by_hashes : AllPairs (λ x y. text x ≡ text y → hashes x ≡ hashes y) items
      → false ≡ (eqb (hashes (get_or items at d)).g (hashes (get_or items index e)).g && (eqb (hashes (get_or items at d)).f1 (hashes (get_or items index e)).f1 && eqb (hashes (get_or items at d)).f2 (hashes (get_or items index e)).f2))
      → get_or (map text items) at [] ≡ get_or (map text items) index [] → ⊥
  differs_by_hashes alike told same = unequal (hashes (get_or items at d)) (hashes (get_or items index e)) told (alike_at alike same)

-- what is so of the texts between is so from here on
pub differs_from : (texts : List (List ℕ)) (at index : ℕ) → ((k : ℕ) → at + 1 ≤ k → k < index → get_or texts k [] ≡ get_or texts index [] → ⊥)
    → (get_or texts at [] ≡ get_or texts index [] → ⊥) → (k : ℕ) → at ≤ k → k < index → get_or texts k [] ≡ get_or texts index [] → ⊥
differs_from texts at index later here k above below same = ⊎_elim
    (λ after. later k (omega (arith, after)) below same)
    (λ upto. let one : at ≡ k = omega arith in here (ap (λ n. get_or texts n []) one ∙ same))
    (cases_lt at k)

-- before a text of another pair none is equal
pub none_before : {X : Type 0} (text : X → List ℕ) (hashes : X → Hashes) (pairs : ℕ) (items : List X) (at index : ℕ) (d e : X) → at < index → index < length items
    → AreGrouped pairs (map hashes items) → AllPairs (λ x y. text x ≡ text y → hashes x ≡ hashes y) items
    → (pair_of pairs (hashes (get_or items at d)) ≡ pair_of pairs (hashes (get_or items index e)) → ⊥)
    → ((k : ℕ) → at + 1 ≤ k → k < index → get_or (map text items) k [] ≡ get_or (map text items) index [] → ⊥)
    → HasEarlier (map text items) index → ⊥
none_before {X = X} text hashes pairs items at index d e low within grouped alike other later (k, below, same) = ⊎_elim
    (λ after. later k (omega (arith, after)) below same)
    (λ upto.
    let count = length-map items hashes in
    let pair : ℕ → ℕ = λ n. pair_of pairs (get_or (map hashes items) n (hashes d)) in
    let read : (n : ℕ) (x : Hashes) (y : X) → n < length items → get_or (map hashes items) n x ≡ hashes (get_or items n y) = λ n x y h. get_or-map hashes items n y x h in
    let ends : pair k ≡ pair index =
    ap (pair_of pairs) (read k (hashes d) d (omega (arith, below, within)) ∙ alike_at text hashes items k index d e below within alike same ∙ sym (read index (hashes d) e within)) in
    let between : pair at ≡ pair k = grouped k at index (hashes d) upto (omega (arith, low)) (omega (arith, within, count)) ends in
    other (ap (pair_of pairs) (sym (read at (hashes d) d (omega (arith, low, within)))) ∙ between ∙ ends ∙ ap (pair_of pairs) (read index (hashes d) e within)))
    (cases_lt at k)
