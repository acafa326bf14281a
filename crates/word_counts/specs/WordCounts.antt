-- How often each word occurs in a list of words.
use Rattle.std.specs.Prelude.{◌≡◌, ℕ, List, [], ◌∷◌, ◌↔◌, length, map}
use Rattle.std.specs.BTreeSet.{insert_key}
use Rattle.std.specs.Cmp.Lexicographic.{slice_cmp}
use Rattle.std.specs.List.{All, Contains, sum}
use Rattle.std.specs.List.Sorted.{IsStrictlySortedBy}
use Rattle.std.specs.Map.{keys_of, values_of}
use Rattle.std.specs.Ordering.{nat_cmp}
use Rattle.string_cache.specs.AtomValue.{AtomValue}
use Rattle.word_counts.specs.Words.{times_seen}

-- each word of the list once, in the order of bytes
abbrev pub distinct_words : List (List ℕ) → List (List ℕ)
distinct_words [] = []
distinct_words (word ∷ rest) = insert_key (slice_cmp nat_cmp) (distinct_words rest) word

-- each word of the list once, in the order of bytes, with the number of its places
abbrev pub word_counts : List (List ℕ) → List (List ℕ × ℕ)
word_counts words = map (λ word. (word, times_seen words word)) (distinct_words words)

-- The same in other words: the words rise, they are those of the list, each number is that of the word's places, and the numbers add up to all.
pub record AreWordCounts (words : List (List ℕ)) (counts : List (List ℕ × ℕ)) : Type 0 where
  -- the words are in ascending order, so none is there twice, and they are those of the list
  pub in_order : IsStrictlySortedBy (slice_cmp nat_cmp) (keys_of counts)
  pub member : (word : List ℕ) → Contains (keys_of counts) word ↔ Contains words word
  -- each number is that of the word's places, and together they are as many as there are words
  pub places : All (λ pair. pair.1 ≡ times_seen words pair.0) counts
  pub total : sum (values_of counts) ≡ length words

-- atoms with their numbers, as texts with their numbers
abbrev pub counted_texts : List (AtomValue × ℕ) → List (List ℕ × ℕ)
counted_texts counts = map (λ pair. (pair.0.text, pair.1)) counts
