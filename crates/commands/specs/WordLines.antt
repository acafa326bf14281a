-- The line that is written for each word of a text.
use Rattle.std.specs.Prelude.{◌≡◌, ℕ, List, [], ◌∷◌, ◌++◌, nat_lt, codes, decimal, if◌then◌else◌}
use Rattle.word_counts.specs.Words.{times_seen, words}

-- the line of a word with n equal words before it: `Seen the word "w" n times`, or `Not seen the word "w" before`
abbrev pub seen_line : List ℕ → ℕ → List ℕ
seen_line word n = if nat_lt 0 n then codes "Seen the word \"" ++ (word ++ (codes "\" " ++ (decimal n ++ codes " times\n")))
    else codes "Not seen the word \"" ++ (word ++ codes "\" before\n")

-- the lines of the words, in order, that come after the words `before`
abbrev pub lines_after : List (List ℕ) → List (List ℕ) → List ℕ
lines_after before [] = []
lines_after before (word ∷ rest) = seen_line word (times_seen before word) ++ lines_after (before ++ (word ∷ [])) rest

-- what `words` writes of a text
abbrev pub word_lines : List ℕ → List ℕ
word_lines text = lines_after [] (words text)

-- the output is those lines
abbrev pub AreWordLines : List ℕ → List ℕ → Type 0
AreWordLines text output = output ≡ word_lines text
