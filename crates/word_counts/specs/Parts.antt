-- Terms of count's private contracts: parts of a text's words, and a text cut into sections between its words.
use Rattle.std.specs.Prelude.{◌≡◌, ℕ, ◌<◌, ◌^◌, List, [], ◌∷◌, length, drop, take}
use Rattle.std.specs.List.{All, flat_map}
use Rattle.word_counts.specs.Words.{words}
use Rattle.word_counts.specs.declared.count.parts.Part.{Part}
use Rattle.word_counts.specs.declared.count.parts.Section.{Section}

-- the words of a part
abbrev pub words_of_part : Part → List (List ℕ)
words_of_part part = drop part.from (take part.to (words part.text.now))

-- the words of the parts, in order
abbrev pub words_of_parts : List Part → List (List ℕ)
words_of_parts parts = flat_map words_of_part parts

-- the words of the sections, in order
abbrev pub words_of_sections : List Section → List (List ℕ)
words_of_sections sections = flat_map (λ section. words section.own.now) sections

-- the text from a section on has the words of this one and of those after it
abbrev pub HaveRests : List Section → Type 0
HaveRests [] = Unit {0}
HaveRests (section ∷ sections) = (words section.rest.now ≡ words_of_sections (section ∷ sections)) × HaveRests sections

-- sections of a text, in order
pub record AreSections (sections : List Section) : Type 0 where
  pub rests : HaveRests sections
  -- each says how many words it has, and all together have so few that their number fits
  pub numbers : All (λ section. section.words ≡ length (words section.own.now)) sections
  pub few : length (words_of_sections sections) < 2 ^ 63
