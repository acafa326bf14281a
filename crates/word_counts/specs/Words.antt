-- The words of a text.
use Rattle.std.specs.Prelude.{ℕ, List, [], ◌∷◌, Bool, true, false, map, filter, count_by, encode_utf8_all, if◌then◌else◌}
use Rattle.std.specs.Str.{chars, bytes_eq}
use Rattle.std.specs.Char.{is_whitespace}

-- c, in front of the first part
abbrev pub cons_first : ℕ → List (List ℕ) → List (List ℕ)
cons_first c [] = (c ∷ []) ∷ []
cons_first c (part ∷ parts) = (c ∷ part) ∷ parts

-- the parts of the characters around their white space, one more than there are white space characters
abbrev pub parts : List ℕ → List (List ℕ)
parts [] = [] ∷ []
parts (c ∷ cs) = if is_whitespace c then [] ∷ parts cs else cons_first c (parts cs)

-- the part isn't empty
abbrev pub has_chars : List ℕ → Bool
has_chars [] = false
has_chars (c ∷ cs) = true

-- the parts that aren't empty: the longest runs of characters that aren't white space
abbrev pub char_words : List ℕ → List (List ℕ)
char_words cs = filter has_chars (parts cs)

-- the words of a text, as bytes: the longest runs of characters that aren't white space (`char::is_whitespace`)
abbrev pub words : List ℕ → List (List ℕ)
words text = map encode_utf8_all (char_words (chars text))

-- how many words before this one are equal to it
abbrev pub times_seen : List (List ℕ) → List ℕ → ℕ
times_seen before word = count_by (bytes_eq word) before
