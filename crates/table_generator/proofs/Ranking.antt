-- Texts that are sorted by rank: those of one pair stand side by side.
use Rattle.std.proofs.Common.{◌≡◌, ℕ, ◌+◌, ◌*◌, ◌%◌, ◌<◌, ◌≤◌, List, [], ◌∷◌, length, map, get_or, sym, ap, ◌∙◌, arith, subst}
use Rattle.std.specs.List.{All}
use Rattle.std.specs.List.Sorted.{IsNonDecreasingBy}
use Rattle.std.proofs.lemmas.List.{get_or-map, length-map}
use Rattle.std.proofs.lemmas.Nat.{mod-mul-add}
use Rattle.text_forms.specs.declared.phf.Hashes.{Hashes}
use Rattle.table_generator.specs.Grouped.{pair_of, rank_of, AreGrouped}

-- equal ranks are ranks of one pair
rank_pair : (others : List ℕ) (h : Hashes) → 1 ≤ length others → rank_of others h % length others ≡ pair_of (length others) h
rank_pair others h some = mod-mul-add (get_or others (pair_of (length others) h) 0) (length others) (pair_of (length others) h) (omega arith)

pub grouped_by_rank : (others : List ℕ) (hashes : List Hashes) → 1 ≤ length others → IsNonDecreasingBy (rank_of others) hashes → AreGrouped (length others) hashes
grouped_by_rank others hashes some rise i j k d low high within same =
    let rank : ℕ → ℕ = λ n. rank_of others (get_or hashes n d) in
    let ends : rank i ≡ rank k = ap (λ p. get_or others p 0 * length others + p) same in
    let up : rank i ≤ rank j = rise i j d low (omega arith) in
    let down : rank j ≤ rank k = rise j k d high within in
    let between : rank j ≡ rank i = omega arith in
    sym (rank_pair others (get_or hashes j d) some) ∙ ap (λ r. r % length others) between ∙ rank_pair others (get_or hashes i d) some

-- what doesn't fall along a list doesn't along the list of what it is read from
rise_map : {X : Type 0} (f : X → Hashes) (rank : X → ℕ) (n : Hashes → ℕ) (xs : List X) → IsNonDecreasingBy rank xs → All (λ x. rank x ≡ n (f x)) xs → IsNonDecreasingBy n (map f xs)
rise_map f rank n [] rise same i j d low within = absurd (omega (arith, within))
rise_map f rank n (x ∷ xs) rise same i j d low within =
    let count = length-map (x ∷ xs) f in
    let below : j < length (x ∷ xs) = omega (arith, within, count) in
    let at : (k : ℕ) → k < length (x ∷ xs) → n (get_or (map f (x ∷ xs)) k d) ≡ rank (get_or (x ∷ xs) k x) =
    λ k h. ap n (get_or-map f (x ∷ xs) k x d h) ∙ sym (same k x h) in
    let up : rank (get_or (x ∷ xs) i x) ≤ rank (get_or (x ∷ xs) j x) = rise i j x low below in
    let first = at i (omega arith) in
    let second = at j below in
    omega (arith, up, first, second)

pub grouped_by : {X : Type 0} (f : X → Hashes) (rank : X → ℕ) (others : List ℕ) (pairs : ℕ) (xs : List X) → 1 ≤ pairs → length others ≡ pairs
    → IsNonDecreasingBy rank xs → All (λ x. rank x ≡ rank_of others (f x)) xs → AreGrouped pairs (map f xs)
grouped_by f rank others pairs xs some count rise same =
    subst (λ p. AreGrouped p (map f xs)) count (grouped_by_rank others (map f xs) (omega (arith, some, count)) (rise_map f rank (rank_of others) xs rise same))
