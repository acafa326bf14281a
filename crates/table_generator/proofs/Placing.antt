-- Texts that are sorted by their places: each stands at its place.
use Rattle.std.proofs.Common.{◌≡◌, ◌≢◌, ℕ, ◌+◌, ◌-◌, ◌<◌, ◌≤◌, zero, suc, true, ◌^◌, rules, List, [], ◌∷◌, ◌++◌, length, map, get_or, take, sym, refl, ap, ◌∙◌, arith, subst, eq-eqb}
use Rattle.std.specs.List.{All, AllPairs, IsDistinct}
use Rattle.std.specs.List.Sorted.{IsNonDecreasing, IsNonDecreasingBy, IsPermutation}
use Rattle.std.proofs.lemmas.List.{get_or-map, length-map, map_push, take_more}
use Rattle.std.proofs.lemmas.List.Kept.{AllPairs-from_increasing}
use Rattle.std.proofs.lemmas.List.Sorted.{All-permutation, IsPermutation-map, length_permutation}
use Rattle.std.proofs.lemmas.Map.Keys.{IsDistinct-IsPermutation, IsStrictlyIncreasing-from_distinct}
use Rattle.std.proofs.lemmas.Map.Made.{IsDistinct-from_AllPairs}
use lib.Dec.{eqb}
use Rattle.text_forms.specs.declared.phf.Hashes.{Hashes}
use Rattle.text_forms.specs.Phf.{hashes_of, hash_of_hashes, place_of}
use Rattle.text_forms.specs.Tables as core
use Rattle.table_generator.specs.Assembled.{Assembles}

-- ---- numbers that rise, all below how many they are

above_index : (xs : List ℕ) → AllPairs (λ x y. x < y) xs → (k : ℕ) → k < length xs → k ≤ get_or xs k 0
above_index xs rise zero h = omega arith
above_index xs rise (suc k) h = let before = above_index xs rise k (omega (arith, h)) in let step = rise k (suc k) 0 (omega arith) h in omega (arith, before, step)

below_index : (xs : List ℕ) (n : ℕ) → AllPairs (λ x y. x < y) xs → All (λ x. x < n) xs → (m k : ℕ) → k + m + 1 ≡ length xs → get_or xs k 0 + m < n
below_index xs n rise small zero k e = let at = small k 0 (omega (arith, e)) in omega (arith, at)
below_index xs n rise small (suc m) k e =
    let after = below_index xs n rise small m (k + 1) (omega (arith, e)) in
    let step = rise k (k + 1) 0 (omega arith) (omega (arith, e)) in
    omega (arith, after, step)

-- each is its own index
pub own_index : (xs : List ℕ) → AllPairs (λ x y. x < y) xs → All (λ x. x < length xs) xs → (k : ℕ) → k < length xs → get_or xs k 0 ≡ k
own_index xs rise small k h =
    let low = above_index xs rise k h in
    let high = below_index xs (length xs) rise small (length xs - k - 1) k (omega (arith, h)) in
    omega (arith, low, high, h)

-- ---- two functions that agree on a list

pub map_same : {X Y : Type 0} (f g : X → Y) (xs : List X) → All (λ x. f x ≡ g x) xs → map f xs ≡ map g xs
map_same f g [] h = refl
map_same f g (x ∷ xs) h =
    let first : f x ≡ g x = h 0 x (omega arith) in
    let rest : map f xs ≡ map g xs = map_same f g xs (λ k d below. h (suc k) d (omega (arith, below))) in
    cc

pub same_from_map : {X Y : Type 0} (f g : X → Y) (xs : List X) → map f xs ≡ map g xs → All (λ x. f x ≡ g x) xs
same_from_map f g xs e k d h = sym (get_or-map f xs k d (f d) h) ∙ ap (λ ys. get_or ys k (f d)) e ∙ get_or-map g xs k d (f d) h

pub map_map : {X Y Z : Type 0} (f : Y → Z) (g : X → Y) (xs : List X) → map f (map g xs) ≡ map (λ x. f (g x)) xs
map_map f g [] = refl
map_map f g (x ∷ xs) = ap (λ ys. f (g x) ∷ ys) (map_map f g xs)

pub all_map : {X Y : Type 0} (f : X → Y) (P : Y → Type 0) (xs : List X) → All (λ x. P (f x)) xs → All P (map f xs)
all_map f P [] h k d below = absurd (omega (arith, below))
all_map f P (x ∷ xs) h k d below =
    let inside : k < length (x ∷ xs) = omega (arith, below, length-map (x ∷ xs) f) in
    subst P (sym (get_or-map f (x ∷ xs) k x d inside)) (h k x inside)

-- ---- differing places, whatever the order

eqb_flips : (x y : ℕ) → eqb x y ≡ eqb y x
eqb_flips x y = grind arith

pub eqb_decides : (a b : ℕ) → (eqb a b ≡ true → a ≡ b) × (a ≡ b → eqb a b ≡ true)
eqb_decides a b = (search rules, eq-eqb a b)

pub differ_permuted : (xs ys : List ℕ) → IsPermutation xs ys → AllPairs (λ x y. x ≢ y) xs → IsDistinct eqb ys
differ_permuted xs ys moved apart = IsDistinct-IsPermutation eqb eqb_flips xs ys moved (IsDistinct-from_AllPairs eqb_decides xs apart)

-- ---- the tables

module _ (key n : ℕ) (disps : List (ℕ × ℕ)) where
  -- the place of a text
  pub place : List ℕ → ℕ
  place text = place_of (hashes_of text key) disps n

  -- texts whose places rise stand at them
  placed : (atoms : List (List ℕ)) → length atoms ≡ n → 1 ≤ n → IsNonDecreasing (map place atoms) → IsDistinct eqb (map place atoms) → (i : ℕ) → i < length atoms → place (get_or atoms i []) ≡ i
  unfolding place
  placed atoms count some rise differ i h =
      let places = map place atoms in
      let many = length-map atoms place in
      let up = AllPairs-from_increasing places (IsStrictlyIncreasing-from_distinct places rise differ) in
      let small : All (λ x. x < length places) places = λ k d below. subst (λ m. m < length places) (sym (get_or-map place atoms k [] d (omega (arith, below, many)))) (omega (arith, many, count, some)) in
      sym (get_or-map place atoms i [] 0 h) ∙ own_index places up small i (omega (arith, h, many))

  assembled : (texts atoms : List (List ℕ)) (hashes : List ℕ) → length texts ≡ n → 1 ≤ n → n < 2 ^ 32 → 1 ≤ length disps → length disps < 2 ^ 32
      → IsPermutation texts atoms → AllPairs (λ x y. x ≢ y) (map place texts) → IsNonDecreasing (map place atoms)
      → hashes ≡ map (λ text. hash_of_hashes (hashes_of text key)) atoms → All (λ hash. hash < 2 ^ 64) hashes
      → Assembles key disps texts (record { key = key; disps = disps; atoms = atoms; hashes = hashes })
  unfolding place core.place_in core.entry_hash
  assembled texts atoms hashes count some few displaced few_disps moved apart rise hashed small =
      let many : length atoms ≡ n = length_permutation texts atoms moved ∙ count in
      let at : (i : ℕ) → i < length atoms → place (get_or atoms i []) ≡ i =
      placed atoms many some rise (differ_permuted (map place texts) (map place atoms) (IsPermutation-map place texts atoms moved) apart) in
      record {
        key_is = refl;
        disps_are = refl;
        listed = moved;
        hashed = hashed;
        small = small;
        perfect = record {
          usable = record {
            displaced = displaced;
            listed = omega (arith, many, some);
            few_disps = few_disps;
            few_atoms = omega (arith, many, few);
            hashed = ap length hashed ∙ length-map atoms (λ text. hash_of_hashes (hashes_of text key));
          };
          distinct = λ i j below_i below_j same. sym (at i below_i) ∙ ap place same ∙ at j below_j;
          placed = λ i below. ap (λ m. place_of (hashes_of (get_or atoms i []) key) disps m) many ∙ at i below;
        };
      }

-- ---- read from items, and sorted by place

pub pairs_map : {X Y : Type 0} (R : Y → Y → Type 0) (g : X → Y) (xs : List X) → AllPairs (λ x y. R (g x) (g y)) xs → AllPairs R (map g xs)
pairs_map R g [] apart i j d low h = absurd (omega (arith, h))
pairs_map R g (x ∷ xs) apart i j d low h =
    let below : j < length (x ∷ xs) = omega (arith, h, length-map (x ∷ xs) g) in
    subst (λ a. R a (get_or (map g (x ∷ xs)) j d)) (sym (get_or-map g (x ∷ xs) i x d (omega arith)))
    (subst (λ b. R (g (get_or (x ∷ xs) i x)) b) (sym (get_or-map g (x ∷ xs) j x d below)) (apart i j x low below))

rise_map : {X : Type 0} (f : X → ℕ) (xs : List X) → IsNonDecreasingBy f xs → IsNonDecreasing (map f xs)
rise_map f [] rise i j d low h = absurd (omega (arith, h))
rise_map f (x ∷ xs) rise i j d low h =
    let below : j < length (x ∷ xs) = omega (arith, h, length-map (x ∷ xs) f) in
    subst (λ a. a ≤ get_or (map f (x ∷ xs)) j d) (sym (get_or-map f (x ∷ xs) i x d (omega arith)))
    (subst (λ b. f (get_or (x ∷ xs) i x) ≤ b) (sym (get_or-map f (x ∷ xs) j x d below)) (rise i j x low below))

-- the items with their texts and hashes; then, before and after the sort, those with text, place and hash of the entry
module _ {X Y : Type 0} (key n : ℕ) (disps : List (ℕ × ℕ)) (text : X → List ℕ) (hashes : X → Hashes) (items : List X)
    (text' : Y → List ℕ) (place' hash' : Y → ℕ) (before after : List Y)
    (hashed : All (λ x. hashes x ≡ hashes_of (text x) key) items)
    (texts_same : map text' before ≡ map text items)
    (moved : IsPermutation before after) where
  -- what is read from an item's hashes is read from its text
  read : (f : Hashes → ℕ) (g : Y → ℕ) → map g before ≡ map (λ x. f (hashes x)) items → map g after ≡ map (λ t. f (hashes_of t key)) (map text' after)
  read f g same =
      let by_text : map g before ≡ map (λ y. f (hashes_of (text' y) key)) before =
      same ∙ map_same (λ x. f (hashes x)) (λ x. f (hashes_of (text x) key)) items (λ k d h. ap f (hashed k d h))
      ∙ sym (map_map (λ t. f (hashes_of t key)) text items) ∙ ap (map (λ t. f (hashes_of t key))) (sym texts_same) ∙ map_map (λ t. f (hashes_of t key)) text' before in
      map_same g (λ y. f (hashes_of (text' y) key)) after
      (All-permutation (λ y. g y ≡ f (hashes_of (text' y) key)) before after moved (same_from_map g (λ y. f (hashes_of (text' y) key)) before by_text))
      ∙ sym (map_map (λ t. f (hashes_of t key)) text' after)

  apart_texts : AllPairs (λ x y. place_of x disps n ≢ place_of y disps n) (map hashes items) → AllPairs (λ x y. x ≢ y) (map (place key n disps) (map text items))
  unfolding place
  apart_texts apart =
      let same : map (λ t. place_of (hashes_of t key) disps n) (map text items) ≡ map (λ h. place_of h disps n) (map hashes items) =
      map_map (λ t. place_of (hashes_of t key) disps n) text items
      ∙ sym (map_same (λ x. place_of (hashes x) disps n) (λ x. place_of (hashes_of (text x) key) disps n) items (λ k d h. ap (λ v. place_of v disps n) (hashed k d h)))
      ∙ sym (map_map (λ h. place_of h disps n) hashes items) in
      subst (AllPairs (λ x y. x ≢ y)) (sym same) (pairs_map (λ x y. x ≢ y) (λ h. place_of h disps n) (map hashes items) apart)

  pub assembled_items : length items ≡ n → 1 ≤ n → n < 2 ^ 32 → 1 ≤ length disps → length disps < 2 ^ 32
      → map place' before ≡ map (λ x. place_of (hashes x) disps n) items → map hash' before ≡ map (λ x. hash_of_hashes (hashes x)) items
      → AllPairs (λ x y. place_of x disps n ≢ place_of y disps n) (map hashes items) → IsNonDecreasingBy place' after
      → (atoms : List (List ℕ)) (numbers : List ℕ) → atoms ≡ map text' after → numbers ≡ map hash' after → All (λ y. hash' y < 2 ^ 64) before
      → Assembles key disps (map text items) (record { key = key; disps = disps; atoms = atoms; hashes = numbers })
  unfolding place
  assembled_items count some few displaced few_disps places numbers_same apart rise atoms numbers atoms_are numbers_are small =
      let perm : IsPermutation (map text items) atoms = subst (λ ts. IsPermutation ts atoms) texts_same (subst (IsPermutation (map text' before)) (sym atoms_are) (IsPermutation-map text' before after moved)) in
      let risen : IsNonDecreasing (map (place key n disps) atoms) =
      subst (λ ts. IsNonDecreasing (map (λ t. place_of (hashes_of t key) disps n) ts)) (sym atoms_are) (subst IsNonDecreasing (read (λ h. place_of h disps n) place' places) (rise_map place' after rise)) in
      assembled key n disps (map text items) atoms numbers (length-map items text ∙ count) some few displaced few_disps perm (apart_texts apart) risen
      (numbers_are ∙ read hash_of_hashes hash' numbers_same ∙ ap (map (λ t. hash_of_hashes (hashes_of t key))) (sym atoms_are))
      (subst (All (λ n. n < 2 ^ 64)) (sym numbers_are) (all_map hash' (λ n. n < 2 ^ 64) after (All-permutation (λ y. hash' y < 2 ^ 64) before after moved small)))

-- ---- one thing told of each, up to a place, and of one more

pub told_one_more : {X Y : Type 0} (f : X → Y) (list : List X) (i : ℕ) (d : X) (told : List Y) (y : Y) → i < length list → told ≡ map f (take i list) → y ≡ f (get_or list i d)
    → told ++ (y ∷ []) ≡ map f (take (i + 1) list)
told_one_more f list i d told y below before is =
    (λ j. before j ++ (is j ∷ [])) ∙ sym (ap (map f) (take_more list i d below) ∙ map_push f (take i list) (get_or list i d))
