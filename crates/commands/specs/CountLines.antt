-- The line that is written for each word's count.
use Rattle.std.specs.Prelude.{◌≡◌, ℕ, List, ◌++◌, codes, decimal}
use Rattle.std.specs.List.{flat_map}
use Rattle.word_counts.specs.WordCounts.{word_counts}
use Rattle.word_counts.specs.Words.{words}

-- the number, a space and the word
abbrev pub count_line : List ℕ × ℕ → List ℕ
count_line pair = decimal pair.1 ++ (codes " " ++ (pair.0 ++ codes "\n"))

-- what `count` writes of a text: a line for each distinct word
abbrev pub count_lines : List ℕ → List ℕ
count_lines text = flat_map count_line (word_counts (words text))

-- the output is those lines
abbrev pub AreCountLines : List ℕ → List ℕ → Type 0
AreCountLines text output = output ≡ count_lines text
