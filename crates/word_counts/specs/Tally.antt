-- A map from words to how often each occurred, with an atom of each.
use Rattle.std.specs.Prelude.{◌≡◌, ℕ, ◌+◌, ◌<◌, List, if◌then◌else◌}
use Rattle.std.specs.HashMap.{HashMap, get_by, IsUnique}
use Rattle.std.specs.List.{All}
use Rattle.std.specs.Option.{option_map_or}
use Rattle.std.specs.Str.{bytes_eq}
use Rattle.string_cache.specs.AtomValue.{AtomValue}
use denote.Ref.{Bor}
use Rattle.word_counts.specs.Words.{times_seen}

module _ {S : Type 0} where
  -- the number of the word, or 0
  abbrev pub number_of : HashMap (Bor (List ℕ)) (AtomValue × ℕ) S → List ℕ → ℕ
  number_of tally word = option_map_or (λ found. found.1) (get_by (λ key. bytes_eq word key.now) tally) 0

  -- new has n more of the word than old, and as many of every other
  abbrev pub AddsTo : HashMap (Bor (List ℕ)) (AtomValue × ℕ) S → HashMap (Bor (List ℕ)) (AtomValue × ℕ) S → List ℕ → ℕ → Type 0
  AddsTo old new word n = (other : List ℕ) → number_of new other ≡ number_of old other + (if bytes_eq other word then n else 0)

  -- each word is there once, with an atom of its own text and a number above zero
  pub record IsLabelled (tally : HashMap (Bor (List ℕ)) (AtomValue × ℕ) S) : Type 0 where
    pub distinct : IsUnique (λ word other. bytes_eq word.now other.now) tally
    pub own : All (λ entry. (entry.1.0.text ≡ entry.0.now) × (0 < entry.1.1)) tally.entries

  -- the tally of a list of words
  pub record IsTallyOf (words : List (List ℕ)) (tally : HashMap (Bor (List ℕ)) (AtomValue × ℕ) S) : Type 0 where
    pub numbers : (word : List ℕ) → number_of tally word ≡ times_seen words word
    pub labelled : IsLabelled tally
