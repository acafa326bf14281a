-- Lists of words with their numbers, each in order, merged into one.
use Rattle.std.specs.Prelude.{◌≡◌, ℕ, ◌+◌, ◌<◌, ◌^◌, List, [], ◌∷◌, ◌++◌, Vec, length, map}
use Rattle.std.specs.Cmp.Lexicographic.{slice_cmp}
use Rattle.std.specs.Ordering.{nat_cmp, match_ordering}
use Rattle.std.specs.declared.cmp.Ordering.{Ordering}
use Rattle.std.specs.declared.cmp.Ordering.TheVariants.{Less, Greater}
use Rattle.string_cache.specs.AtomValue.{AtomValue}
use Rattle.word_counts.specs.WordCounts.{counted_texts, word_counts}

-- each word of either list once, in order; a word in both has the sum of both numbers
abbrev pub merged : List (List ℕ × ℕ) → List (List ℕ × ℕ) → List (List ℕ × ℕ)
merged [] back = back
merged (pair ∷ front) [] = pair ∷ front
merged (pair ∷ front) (other ∷ back) =
    match_ordering (slice_cmp nat_cmp pair.0 other.0)
    (pair ∷ merged front (other ∷ back))
    ((pair.0, pair.1 + other.1) ∷ merged front back)
    (other ∷ merged (pair ∷ front) back)

-- how the first words of both compare; if a list has none, the other's comes first
abbrev pub first_order : List (List ℕ × ℕ) → List (List ℕ × ℕ) → Ordering
first_order [] back = Greater
first_order (pair ∷ front) [] = Less
first_order (pair ∷ front) (other ∷ back) = slice_cmp nat_cmp pair.0 other.0

-- each list is the word counts of a part of these words; the parts follow one another, and make up all of them
abbrev pub AreCountsOf : List (List ℕ) → List (List (List ℕ × ℕ)) → Type 0
AreCountsOf words [] = words ≡ []
AreCountsOf words (counts ∷ lists) = (part : List (List ℕ)) × (rest : List (List ℕ)) × (words ≡ part ++ rest) × (counts ≡ word_counts part) × AreCountsOf rest lists

-- the same for some words, so few that no number is too large
abbrev pub AreCountsOfFew : List (List (List ℕ × ℕ)) → Type 0
AreCountsOfFew lists = (words : List (List ℕ)) × (length words < 2 ^ 63) × AreCountsOf words lists

module _ {Z : Type 0} where
  -- what each list of atoms with their numbers says about texts
  abbrev pub all_counted_texts : List (Vec (AtomValue × ℕ) Z) → List (List (List ℕ × ℕ))
  all_counted_texts lists = map (λ list. counted_texts list.items) lists

  -- the lists are made one: if each has the word counts of a part of some words, `counts` has those of all these words
  abbrev pub AreMerged : List (Vec (AtomValue × ℕ) Z) → Vec (AtomValue × ℕ) Z → Type 0
  AreMerged lists counts = (words : List (List ℕ)) → AreCountsOf words (all_counted_texts lists) → counted_texts counts.items ≡ word_counts words
