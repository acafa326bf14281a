-- What is told about the length of a word's text.
use Rattle.std.specs.Prelude.{◌≡◌, ℕ, List, length, Option, Some, None}
use Rattle.std.specs.Str.{IsUtf8}
use Rattle.interner_table.specs.Map.{InternMap}
use Rattle.interner_table.specs.Table.{HasWord, IsHeld}
use Rattle.interner_table.specs.Tables.{Tables}

-- the bytes of the text that has the word; None for a word that isn't held
abbrev pub IsLengthOf : Tables → InternMap → ℕ → Option ℕ → Type 0
IsLengthOf t m word (Some bytes) = (text : List ℕ) → IsUtf8 text → HasWord t m text word → bytes ≡ length text
IsLengthOf t m word None = ¬ (IsHeld t m word)
